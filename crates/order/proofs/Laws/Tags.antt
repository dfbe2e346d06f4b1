-- No tag twice, by the parts of a partition.
pub mod Apart
pub mod Looked
pub mod Samples
