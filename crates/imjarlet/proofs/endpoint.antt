-- The laws of endpoint.
pub mod Laws
