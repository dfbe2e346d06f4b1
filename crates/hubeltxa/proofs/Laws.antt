-- Laws on answers at the C boundary.
pub mod Told
