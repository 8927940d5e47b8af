-- What the definitions of a run and of a job entail.
pub mod Walks
pub mod Settled
pub mod Relations
pub mod Enclosure
pub mod Following
pub mod Bare
pub mod Covering
pub mod Judging
pub mod Fitting
pub mod Lawful
pub mod Putting
pub mod Jobs
pub mod Legal
pub mod GivenInRuns
pub mod ReadingFigures
