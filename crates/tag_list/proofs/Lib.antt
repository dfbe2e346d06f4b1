-- Laws on what is printed.
pub mod Laws
