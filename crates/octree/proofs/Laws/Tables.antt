-- Whole tables: written, compared, read, checked.
pub mod Tagless
pub mod Padded
pub mod Samples
pub mod Octants
pub mod Judged
pub mod Reading
pub mod Check
pub mod Questions
