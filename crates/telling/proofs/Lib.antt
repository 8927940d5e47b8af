-- The laws of what is told of a job.
pub mod Headline
pub mod Told
pub mod Forms
pub mod Twelve
