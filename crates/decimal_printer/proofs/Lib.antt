-- The laws of printed counts.
pub mod Last
pub mod Printing
