-- The laws of end.
pub mod Laws
