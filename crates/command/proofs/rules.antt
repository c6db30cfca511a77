-- The laws of rules.
pub mod Laws
pub mod Rows
pub mod Pairs
