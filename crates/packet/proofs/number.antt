-- The laws of number.
pub mod Laws
