-- Request h: a text packed.
pub mod TextPacking
pub mod GivenInText
