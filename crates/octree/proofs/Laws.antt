-- Laws on the definitions of tables, and what the proofs of the functions need of them.
pub mod Next
pub mod Rows
pub mod Tables
