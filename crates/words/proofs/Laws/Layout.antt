-- Words by row and field in the layout in use.
pub mod Places
pub mod Samples
pub mod Octants
pub mod Put
