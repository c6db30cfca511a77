-- The laws of transfer.
pub mod Laws
