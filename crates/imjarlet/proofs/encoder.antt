-- The laws of encoder.
pub mod Laws
