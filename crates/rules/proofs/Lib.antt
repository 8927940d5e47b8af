-- The mathematics of the rules, one claim a file.
pub mod Rounding
pub mod Zeros
pub mod Reciprocal
pub mod Reach
pub mod Enclosure
pub mod Whole
pub mod Cover
pub mod Times
pub mod Quotients
pub mod OneStep
pub mod Lists
pub mod Figures
