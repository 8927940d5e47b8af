-- Request f: what the bits of a double mean, and the double of a number of units.
pub mod Doubles
