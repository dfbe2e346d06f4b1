-- Laws on where the words of the tables stand.
pub mod Laws
