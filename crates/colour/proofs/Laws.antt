-- The formulas of specs/ are the words of document 01: channels, octants and their children, keys, distances, the extremes of a cube, and masks;
-- with what the proofs of the functions need of them.
pub mod Table
pub mod Channels
pub mod Octants
pub mod Cubes
pub mod Base8
pub mod Keys
pub mod Distance
pub mod Gaps
pub mod Extremes
pub mod Mask
pub mod Halves
pub mod Questions
pub mod Refused
