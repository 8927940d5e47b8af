-- Signed numbers between limits.
pub mod Limits
