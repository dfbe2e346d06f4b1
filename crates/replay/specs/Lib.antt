-- Which call of the machine a value means, what the entry for every call promises, and what the driver makes of a script.
pub mod Calls
pub mod Format
pub mod Script
pub mod Replayed
