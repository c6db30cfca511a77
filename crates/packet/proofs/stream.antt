-- The laws of stream.
pub mod Laws
