-- The laws of matryoshki in lent lists.
pub mod Lent
