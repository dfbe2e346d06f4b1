-- The calls of the C boundary, by the definitions of the crates that they call.
pub mod Left
