-- The words that a text's instructions are kept in.
pub mod WordNumbers
pub mod WordLists
