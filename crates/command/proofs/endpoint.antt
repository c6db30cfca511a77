-- The laws of endpoint.
pub mod Laws
pub mod Boundary
