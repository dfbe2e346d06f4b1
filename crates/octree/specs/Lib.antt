-- What the functions that write and compare tables promise (document 01, "The tables").
pub mod Laws
pub mod Passes
pub mod Steps
