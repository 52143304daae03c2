-- What is right of writing a chart: `Zeros` counts a number's groups, `Writing` says what a call answers and leaves, by the
-- definition of a chart's file in chart_file, and `Demand` what is promised of that.
pub mod Zeros
pub mod Writing
pub mod Demand
