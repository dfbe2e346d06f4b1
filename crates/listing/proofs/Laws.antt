-- What the proofs of the functions cite.
pub mod Pass
pub mod Steps
pub mod Sound
pub mod Answers
