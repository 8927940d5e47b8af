-- What C sees of packing a text.
pub mod TextDoors
