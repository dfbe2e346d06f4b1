-- What nearest finds, over any words of the tables.
pub mod Best
pub mod Steps
