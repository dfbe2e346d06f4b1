-- What the proofs of the entry and the driver cite.
pub mod Laws
