-- Ball and box over any words of the tables.
pub mod Pass
pub mod Answers
pub mod Steps
