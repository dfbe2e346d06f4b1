-- Laws on load: the machine's lines, and each function under the call.
pub mod Ends
pub mod Good
pub mod Halving
pub mod Left
pub mod Lines
pub mod Put
pub mod Whole
