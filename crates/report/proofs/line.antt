-- The laws of line.
pub mod Laws
