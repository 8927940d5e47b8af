-- Issue "Honest decimals": the texts of numbers and margins, what they mean, and where a text goes wrong.
pub mod Texts
pub mod Places
pub mod Figures
