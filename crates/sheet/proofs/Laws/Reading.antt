-- What the functions that read cite: digits, lines, the header, the lookup.
pub mod Digits
pub mod Lines
pub mod Header
pub mod Lookup
