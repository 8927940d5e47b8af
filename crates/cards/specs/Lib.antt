-- Request j: the card of static margins: a formula's slopes over a domain, the margin that they give a reading, and the
-- jobs that make a card and use it.
pub mod Slopes
pub mod Card
pub mod Making
pub mod Using
pub mod GivenInMaking
pub mod GivenInUsing
pub mod Figures
pub mod Lent
