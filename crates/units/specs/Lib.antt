-- Fractions in whole units: `Units` defines the two between which a fraction lies, `Demand` says what that means.
-- In quotation marks: docs/CHART.md, two units.
pub mod Units
pub mod Demand
