-- The laws of the padding.
pub mod Paddings
