-- The reading lines that the program `margins` reads.
pub mod Rows
