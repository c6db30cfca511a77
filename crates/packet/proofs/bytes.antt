-- The laws of bytes.
pub mod Laws
