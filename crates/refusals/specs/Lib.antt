-- Document 01, "Numbered replies and their order": the numbers, what an answer is, the places, and what a reply says.
pub mod Refusals
pub mod Answer
pub mod Places
pub mod Said
