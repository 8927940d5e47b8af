-- What the program `margins` prints, as the code comes to it.
pub mod Prints
