-- Which outputs can be picked, and what picking them leaves.
pub mod Picking
