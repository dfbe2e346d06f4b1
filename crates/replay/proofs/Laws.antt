-- Laws on calls, on lists, and on the steps of a script.
pub mod Calls
pub mod Parts
pub mod Steps
pub mod Events
pub mod Day
