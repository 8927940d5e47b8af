-- The slopes of a checked formula as they are worked out: what the parts of the walk promise one another.
pub mod Grading
