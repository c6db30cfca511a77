-- The laws of carry.
pub mod Laws
