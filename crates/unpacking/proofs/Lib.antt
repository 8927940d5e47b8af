-- The laws of reading back, one subject a file.
pub mod Unpacked
pub mod OneUnpacking
