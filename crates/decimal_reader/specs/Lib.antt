-- What the answers of the reader tell.
pub mod Answers
