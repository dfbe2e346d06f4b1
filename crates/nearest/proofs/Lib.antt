-- Laws and proofs of nearest.
pub mod Laws
