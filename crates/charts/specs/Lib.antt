-- Request f: the ball job with its outputs as doubles.
pub mod Charts
