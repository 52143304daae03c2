-- The ends of a chart's pieces as the new mode's code holds them.
pub mod Ends
pub mod Demand
