-- The laws of writing bits, one subject a file.
pub mod Bits
pub mod Pendings
pub mod Giving
pub mod OnePut
