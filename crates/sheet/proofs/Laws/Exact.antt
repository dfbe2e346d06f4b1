-- What reads as good is what is written from what it says, and nothing else.
pub mod Lines
pub mod Sheets
