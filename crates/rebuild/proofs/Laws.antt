-- Laws on rebuilding.
pub mod Asked
