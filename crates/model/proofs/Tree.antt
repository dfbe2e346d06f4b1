-- Laws of the tree of octants: its members, its order, its size, what a query counts on it, and the nearest sample.
pub mod Order
pub mod Cubes
pub mod Octants
pub mod Splits
pub mod Members
pub mod Ordered
pub mod Alike
pub mod Counts
pub mod Nearest
