-- What the bits of a list of bytes are, and what taking a field from them gives.
pub mod Bits
pub mod Reader
pub mod Fields
