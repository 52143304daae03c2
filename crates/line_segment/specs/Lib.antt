-- In quotation marks: docs/CHART.md, kind, min and max, exclusive wins, overlap, crossing, demand 2.
pub mod Piece
pub mod Geometry
pub mod Segment
pub mod Demand
