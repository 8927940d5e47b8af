-- What the definitions of a text entail.
pub mod Completeness
pub mod Soundness
pub mod Completions
pub mod Raised
pub mod Prefixes
pub mod Fractions
pub mod Letters
pub mod Exactly
pub mod Refusals
pub mod Constants
pub mod Examples
