-- Where the words of the tables stand (document 01, "The tables").
pub mod Rows
