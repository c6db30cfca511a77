-- The laws of table.
pub mod Laws
