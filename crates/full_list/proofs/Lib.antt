-- Which file to open: Freshness for the test of a pair, Writing for pairs written one by one.
pub mod Freshness
pub mod Writing
