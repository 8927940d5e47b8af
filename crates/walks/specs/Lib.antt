-- What a walk over a checked formula's instructions asks and leaves.
pub mod Copying
pub mod Walks
