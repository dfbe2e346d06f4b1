-- What the queries answer.
pub mod Answers
