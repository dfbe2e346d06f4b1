-- What the proofs of the calls cite.
pub mod Machine
pub mod Answered
pub mod Asked
