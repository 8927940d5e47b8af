-- Numbers as they are written: their digits, and their units.
pub mod Digits
pub mod Units
pub mod Decimals
pub mod Places
