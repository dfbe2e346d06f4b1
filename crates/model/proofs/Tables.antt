-- Laws of the tables' words, over the layout.
pub mod Numbers
pub mod Size
pub mod Unique
pub mod Next
