-- The formula's line, in hex.
pub mod Hex
