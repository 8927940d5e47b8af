-- What the parts of a card's use promise one another.
pub mod Tests
pub mod Sums
pub mod Uses
