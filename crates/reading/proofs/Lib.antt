-- The laws of the readers.
pub mod Found
