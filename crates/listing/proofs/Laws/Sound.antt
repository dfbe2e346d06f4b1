-- On sound tables a pass is document 01's.
pub mod Said
pub mod Counted
pub mod Own
pub mod Visited
pub mod Passed
