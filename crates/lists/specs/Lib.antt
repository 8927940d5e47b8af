-- Lists: what one holds after its front or a part of it was written, what holds of each element, and two lists side by
-- side.
pub mod Over
pub mod Written
pub mod All
pub mod Each
pub mod Joined
