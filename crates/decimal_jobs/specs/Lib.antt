-- "Honest decimals: hours in, hours out": what the two jobs answer.
pub mod Tests
pub mod Lent
pub mod Out
pub mod In
pub mod Assured
