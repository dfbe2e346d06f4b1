-- The calls that change a sample set: their answers, and what the functions under them promise.
pub mod Answers
pub mod Rebuilding
pub mod Steps
