-- From a pass to what is answered.
pub mod Answered
pub mod Listing
