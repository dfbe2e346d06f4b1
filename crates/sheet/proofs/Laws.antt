-- Laws on the definitions of sheets, and what the proofs of the functions need of them.
pub mod Numbers
pub mod Text
pub mod Names
pub mod Parts
pub mod Ranges
pub mod Reading
pub mod Writing
pub mod RoundTrip
pub mod Exact
