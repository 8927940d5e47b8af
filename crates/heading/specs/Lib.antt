-- What passing the header gives.
pub mod HeaderAnswers
