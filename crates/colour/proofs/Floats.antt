-- Panel floats to codes and back, and queries taken apart.
pub mod Value
pub mod Fields
pub mod Shown
pub mod Answers
pub mod Codes
pub mod Queries
