-- From a reply to what C is told, and what that fixes.
pub mod PackTelling
pub mod OnePackDoor
