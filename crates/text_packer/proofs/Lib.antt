-- The laws of packing a text, one subject a file.
pub mod Columns
pub mod Permitting
pub mod Instructions
pub mod Listed
pub mod Answered
pub mod Started
