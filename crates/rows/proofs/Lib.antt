-- The laws of reading lines, one subject a file.
pub mod Numbers
pub mod Columns
