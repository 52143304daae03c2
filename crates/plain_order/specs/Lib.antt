-- The list of meeting pairs in the order of their first common points: `Order` says which of two pairs comes first, `Plain`
-- what the call leaves. `Places` is what the code goes by inside. `Demand` states what is promised.
-- In quotation marks: docs/CHART.md, plain order, first common point, room, refusal.
pub mod Order
pub mod Plain
pub mod Places
pub mod Demand
