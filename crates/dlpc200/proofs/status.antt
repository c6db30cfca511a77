-- The laws of status.
pub mod Laws
