-- The laws of plain values in a lent list.
pub mod Lent
