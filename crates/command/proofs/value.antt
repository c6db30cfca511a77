-- The laws of value.
pub mod Laws
