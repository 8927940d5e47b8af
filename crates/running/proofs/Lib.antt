-- The laws of the three runs.
pub mod Readiness
pub mod Running
pub mod OneStart
