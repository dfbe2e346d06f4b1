-- Octant rows as they are passed to a table, child by child.
pub mod Octant
pub mod Passed
pub mod Given
pub mod Ends
