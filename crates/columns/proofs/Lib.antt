-- The laws of the columns.
pub mod Adding
