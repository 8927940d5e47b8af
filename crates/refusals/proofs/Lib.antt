-- The laws of answers and of what replies say.
pub mod Answers
pub mod OneReply
