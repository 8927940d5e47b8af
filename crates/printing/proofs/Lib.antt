-- The laws of what is printed, one subject a file.
pub mod Digits
pub mod OneNumber
