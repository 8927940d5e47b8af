-- The laws of balls in lent lists.
pub mod Lent
