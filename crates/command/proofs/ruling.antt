-- The laws of ruling.
pub mod Laws
