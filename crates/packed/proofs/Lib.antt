-- The laws of the packed formula, one subject a file.
pub mod FieldIn
pub mod InTurn
pub mod Instructions
pub mod Taking
pub mod Inside
pub mod WellFormed
pub mod PaddingGiven
pub mod GivenExactly
pub mod Shapes
pub mod Margins
pub mod Reciprocals
pub mod Accepted
pub mod Formed
pub mod OneInstruction
