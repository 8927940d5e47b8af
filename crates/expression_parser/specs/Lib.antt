-- What reading a text, and a part of one, leaves.
pub mod Words
pub mod Parts
pub mod Parsed
