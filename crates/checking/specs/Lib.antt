-- What the check answers.
pub mod CheckAnswers
