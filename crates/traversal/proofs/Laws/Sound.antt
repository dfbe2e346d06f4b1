-- What sound tables say of an octant of the tree and of its samples.
pub mod Each
pub mod Shown
pub mod Held
pub mod Followed
pub mod Standing
