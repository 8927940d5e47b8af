-- The laws of decimal texts, one subject a file.
pub mod Digits
pub mod Texts
pub mod Lengths
pub mod BallTexts
pub mod Readings
pub mod Places
pub mod Stops
pub mod Signs
pub mod Figures
