-- What a division gives.
pub mod Nearest
