-- The array that the sweep's code asks for pieces. `Table` reads it as a chart.
pub mod Table
