-- The demands' proofs, one subject a file.
pub mod Answering
pub mod Nearness
pub mod Demand2
pub mod Demand3
