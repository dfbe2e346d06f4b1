-- What the functions of a pass do, step by step.
pub mod Following
pub mod Turning
pub mod Visiting
pub mod Passing
