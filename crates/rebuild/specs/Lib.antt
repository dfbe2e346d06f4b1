-- What a rebuild of both tables is asked.
pub mod Questions
