-- The laws of lists, one subject a file.
pub mod Over
pub mod Front
pub mod Again
pub mod OneWriting
pub mod PartOf
pub mod Each
pub mod InTurn
pub mod Joined
pub mod Beginnings
