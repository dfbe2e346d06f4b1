-- Laws on what is printed.
pub mod Lines
pub mod Order
pub mod Loading
pub mod Printing
pub mod Paper
