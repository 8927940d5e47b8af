-- Request a, "A packer for formulas": from scale, m, a list of instructions and a list of outputs to the packed bytes,
-- and back.
pub mod Raw
pub mod Lent
pub mod Slots
pub mod Packing
pub mod Unpacking
pub mod GivenInPacking
pub mod PackAnswers
pub mod ReadBack
pub mod Examples
