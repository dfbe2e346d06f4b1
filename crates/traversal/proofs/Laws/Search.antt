-- The search, over any words and for any store.
pub mod Turns
pub mod Entered
pub mod Keeps
pub mod Spots
pub mod Path
