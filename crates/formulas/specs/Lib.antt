-- What a formula is, what a run of it and a whole job are, on lists, once for the three kinds; and exact arithmetic on
-- the same formula.
pub mod Formula
pub mod Run
pub mod Readings
pub mod Kinds
pub mod Lawful
pub mod Job
pub mod GivenInRuns
pub mod ExactRun
pub mod ReadingFigures
