-- Laws on the calls that change a sample set.
pub mod Meets
pub mod Shown
pub mod Tags
pub mod Moved
pub mod Rebuilt
pub mod Accepted
pub mod Cleared
pub mod Added
pub mod Removed
pub mod Loaded
