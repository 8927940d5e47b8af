-- Readings as records, and the columns that hold the first of them.
pub mod Records
