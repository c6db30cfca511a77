-- The laws of asking.
pub mod Laws
