-- What the proofs of nearest cite.
pub mod Closer
pub mod Measuring
pub mod Starting
pub mod Limits
pub mod Least
pub mod Found
