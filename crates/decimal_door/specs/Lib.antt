-- What C sees of decimals out and in.
pub mod DecimalDoors
