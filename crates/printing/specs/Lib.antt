-- Decimal numbers as bytes.
pub mod Decimal
