-- What is written reads back as it was given.
pub mod Columns
pub mod Lines
pub mod Sheets
