-- The laws of the reader's answers.
pub mod Margins
pub mod Numbers
pub mod OneAnswer
