-- When a run is ready for its first step.
pub mod Ready
