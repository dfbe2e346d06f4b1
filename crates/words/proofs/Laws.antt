-- Laws on where the words of the tables stand, on words that are 0, and on answers.
pub mod Answers
pub mod Words
pub mod Layout
