-- The laws of passing the header.
pub mod Fetched
pub mod Headings
pub mod OneHeader
