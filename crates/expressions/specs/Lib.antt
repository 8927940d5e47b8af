-- Request (h), "Formulas as people write them": the texts, what each means, and where a text goes wrong.
pub mod Tree
pub mod Kind
pub mod Grammar
pub mod Parser
pub mod Texts
pub mod Compiled
