-- The laws of bits, one subject a file.
pub mod Digits
pub mod Gather
pub mod Ends
pub mod Endings
pub mod Take
pub mod OneField
