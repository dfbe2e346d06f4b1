-- On sound tables, for any store that takes samples one by one (`Takes`) and measures an octant's own samples so (`Owns`): what the search keeps.
pub mod Labels
pub mod Sorted
pub mod Folds
pub mod Own
pub mod Children
pub mod Child
pub mod Searched
