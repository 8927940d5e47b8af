-- What the tests of readings promise.
pub mod Judges
