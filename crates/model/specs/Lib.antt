-- Document 01, "The bin", "The tables", "Picks", "Questions" and "Cases a to l".
pub mod Lists
pub mod SampleSet
pub mod Layout
pub mod Tables
pub mod Tree
pub mod Queries
pub mod Machine
pub mod Sound
pub mod Meets
pub mod Trace
pub mod Walklist
pub mod Computes
pub mod Cases
