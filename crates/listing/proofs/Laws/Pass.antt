-- A pass over any words.
pub mod Tags
pub mod Turns
pub mod Bounds
