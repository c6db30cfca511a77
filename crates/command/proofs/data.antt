-- The laws of data.
pub mod Laws
