-- What the proofs of the traversals cite.
pub mod Bits
pub mod Rows
pub mod Places
pub mod Cubes
pub mod Nearby
pub mod Sound
pub mod Search
pub mod Kept
pub mod Tests
