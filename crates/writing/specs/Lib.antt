-- Bits padded to whole bytes, and a writer of bits that gives out bytes as they fill.
pub mod Bytes
pub mod Pending
