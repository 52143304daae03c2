-- What a branch of the code knows of its answer: `Answers`. Each contract allows one result: `Once`.
pub mod Answers
pub mod Once
