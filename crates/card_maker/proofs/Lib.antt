-- Making a card in the code's shape.
pub mod Rest
pub mod Carried
pub mod Admitted
pub mod Graded
pub mod Rows
pub mod Picked
pub mod Filed
pub mod Written
pub mod Made
pub mod Kept
pub mod OneCard
