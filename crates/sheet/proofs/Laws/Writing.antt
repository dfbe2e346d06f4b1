-- What the functions that write cite: columns, lines, and their lengths.
pub mod Columns
pub mod Lengths
pub mod Lines
