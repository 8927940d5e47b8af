-- What the proofs of several functions share.
pub mod Reading
pub mod Rounding
pub mod OneReading
pub mod Places
