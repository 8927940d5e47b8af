-- The laws of the door to the chart.
pub mod ChartTelling
