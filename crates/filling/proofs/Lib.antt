-- The laws of filling lists, one subject a file.
pub mod Turns
pub mod Listing
pub mod Naming
pub mod OneFilling
