-- Document 01, "The packed formula": what the bytes mean.
pub mod Items
pub mod Format
pub mod Meaning
pub mod Loading
pub mod ReaderAnswers
pub mod Given
pub mod Walk
