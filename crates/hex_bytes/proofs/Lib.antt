-- The laws of hex.
pub mod Hexes
