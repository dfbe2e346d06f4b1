-- What every traversal of the tables reads of an octant, on any words, and the search for what is closest.
pub mod Squares
pub mod Own
pub mod Rows
pub mod Places
pub mod Children
pub mod Nearby
pub mod Turns
pub mod Search
pub mod Steps
pub mod Spot
