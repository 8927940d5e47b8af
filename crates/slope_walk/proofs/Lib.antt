-- The slopes' walk in the code's shape.
pub mod Single
pub mod Laying
pub mod Weighing
pub mod Inputs
pub mod Instructions
pub mod Turns
