-- The laws of the chart's doubles.
pub mod Drawing
pub mod Charting
pub mod OneChart
