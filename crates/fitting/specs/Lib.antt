-- What the packer's tests answer.
pub mod Sizes
