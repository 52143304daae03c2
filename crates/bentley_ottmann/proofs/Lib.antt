-- `Answering`: what a run tells is the sweep's answer; `Once`: one outcome. What is promised of the answer stands in the crate
-- promises.
pub mod Answering
mod Once
