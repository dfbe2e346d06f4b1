-- Laws on the definitions of sheets.
pub mod Laws
