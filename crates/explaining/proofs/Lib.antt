-- The search by halves in the code's shape.
pub mod Trying
pub mod Halving
pub mod Search
pub mod Answering
pub mod Exactly
