-- Document 01, "Sheets".
pub mod Column
pub mod Line
pub mod Sheet
pub mod Answers
pub mod Steps
pub mod Entries
pub mod Computes
