-- What the proofs share.
pub mod Quotients
pub mod Steps
pub mod Inverses
