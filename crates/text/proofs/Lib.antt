-- The laws of the program's output, one subject a file.
pub mod OneAnswer
