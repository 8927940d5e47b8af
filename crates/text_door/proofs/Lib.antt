-- What C is told of a text, and that it is one outcome.
pub mod TextTelling
