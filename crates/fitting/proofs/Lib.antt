-- The laws of the packer's tests, one subject a file.
pub mod Tests
pub mod Headers
pub mod Summing
pub mod Programs
pub mod Wholes
pub mod OneSize
