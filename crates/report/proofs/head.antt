-- The laws of head.
pub mod Laws
