-- What is printed for the lines of an input.
pub mod Worded
