-- What the round trip tries.
pub mod Grey
