-- Document 01, "Colours and octants", "Gestures", and what a question is.
pub mod Channels
pub mod Colour
pub mod Probe
pub mod Octant
pub mod Key
pub mod Panel
pub mod Region
pub mod Mask
pub mod Steps
pub mod Nearby
pub mod Question
pub mod Refusal
pub mod Query
pub mod Computes
