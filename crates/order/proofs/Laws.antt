-- Laws on entries, their partition and their order, and on tags.
pub mod Partition
pub mod Entries
pub mod Tags
pub mod Order
