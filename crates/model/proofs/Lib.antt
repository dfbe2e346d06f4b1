-- Laws on the definitions, and the whole-day theorem.
pub mod Lists
pub mod Joined
pub mod Kept
pub mod Tree
pub mod Tables
pub mod Machine
