-- The partition step: those of each digit, sizes and starts, places.
pub mod Digits
pub mod Sizes
pub mod Placing
