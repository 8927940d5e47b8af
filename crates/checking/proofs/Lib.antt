-- The laws of the check, one subject a file.
pub mod Several
pub mod Checks
pub mod OneCheck
