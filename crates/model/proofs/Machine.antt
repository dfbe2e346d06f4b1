-- Laws of the reference machine: it stays within its tables, and the whole-day theorem.
pub mod Samples
pub mod Step
pub mod Valid
pub mod Day
pub mod Possible
