-- Request i: a domain made narrower, the domain at t of 256 parts, and why a domain was refused.
pub mod Narrow
pub mod Parts
pub mod Explained
pub mod GivenInExplaining
