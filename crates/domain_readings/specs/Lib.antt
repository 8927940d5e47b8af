-- What copying a domain asks and leaves.
pub mod Copying
