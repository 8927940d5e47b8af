-- The laws of readings, one subject a file.
pub mod Sign
pub mod Passing
pub mod OneVerdict
pub mod InLists
