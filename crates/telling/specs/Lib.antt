-- What the program `margins` prints.
pub mod Program
pub mod Form
pub mod Telling
