-- The laws of record.
pub mod Laws
