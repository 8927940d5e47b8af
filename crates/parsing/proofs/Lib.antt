-- The laws of the program's text, one subject a file.
pub mod Ranges
pub mod Cuts
pub mod Gathering
pub mod Decimals
pub mod Signs
pub mod OneGathering
