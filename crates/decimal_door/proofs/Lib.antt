-- The doors of decimals.
pub mod DecimalTelling
