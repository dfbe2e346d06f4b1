-- Entries, and what the functions that partition and order them promise.
pub mod Entries
pub mod Steps
