-- The laws of putting fields, one subject a file.
pub mod Puttings
pub mod Instructions
pub mod Loops
pub mod Turns
pub mod Headers
pub mod Wholes
pub mod Packings
