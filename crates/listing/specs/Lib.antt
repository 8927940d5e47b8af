-- The lines that the program prints of a run's outputs, as bytes.
pub mod OutputLines
pub mod Short
