-- The laws of picking, one subject a file.
pub mod Outputs
pub mod Turns
pub mod EachKind
