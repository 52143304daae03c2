-- `Answering`: what a run tells is the call's answer; `Once`: one outcome.
pub mod Answering
mod Once
