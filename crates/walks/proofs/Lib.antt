-- What the three walks share.
pub mod Programs
pub mod Onward
pub mod Walking
pub mod Stepping
pub mod OneWalk
pub mod Copied
