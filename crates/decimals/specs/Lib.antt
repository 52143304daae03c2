-- Text in lent bytes: `Text` puts bytes one after another, `Decimal` says how a number is written. `Demand` states what is
-- promised of that.
pub mod Text
pub mod Decimal
pub mod Demand
