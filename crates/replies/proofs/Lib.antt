-- From a job's reply to what C is told, and what that fixes.
pub mod Telling
pub mod OneDoor
