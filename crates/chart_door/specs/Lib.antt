-- What C sees of the ball job with doubles.
pub mod ChartDoors
