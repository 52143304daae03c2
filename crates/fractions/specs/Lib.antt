-- What fractions and points are, as the contracts of whole_parts, comparison and lowest_terms cite it; Demand has what is promised.
-- In quotation marks: docs/CHART.md, point, bounds of a point, exact order, bounds of a height, order of points.
pub mod Order
pub mod Fraction
pub mod Divisor
pub mod Point
pub mod Turns
pub mod Worked
pub mod Demand
