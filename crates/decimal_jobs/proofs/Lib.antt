-- The laws of the two jobs, one subject a file.
pub mod Lent
pub mod Asking
pub mod Showing
pub mod Reading
pub mod OneDecimal
pub mod Assured
