-- The laws of a card's use, in the code's shape, one subject a file.
pub mod Lows
pub mod Inside
pub mod Sums
pub mod Fronts
pub mod Stepwise
pub mod Kept
pub mod Begun
pub mod OneUse
