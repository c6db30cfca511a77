-- The laws of response.
pub mod Laws
