-- Laws on entries, their partition and their order.
pub mod Laws
