-- The laws of output lines, one subject a file.
pub mod Line
pub mod Listed
pub mod OneListing
