-- The demands at the doors and in print, one subject a file.
pub mod AtDoors
pub mod Exactly
pub mod ReadBack
pub mod InPrint
pub mod OnChart
pub mod OfTexts
