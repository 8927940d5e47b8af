-- The text that the program `margins` reads: lines, decimal numbers, the job's word.
pub mod Lines
pub mod Cut
pub mod Number
pub mod Word
pub mod ParsingAnswers
