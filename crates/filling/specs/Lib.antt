-- What filling lent lists from a checked formula asks, and what stands in them then.
pub mod Filling
