-- Entries: what they stand for, and how they are filled in.
pub mod View
pub mod Filled
