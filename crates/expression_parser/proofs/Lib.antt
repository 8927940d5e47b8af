-- The laws of reading a text, one subject a file.
pub mod Keeping
pub mod Seen
pub mod Numbers
pub mod Parts
pub mod Numbered
pub mod Factors
pub mod Joined
pub mod Whole
