-- The laws of carrying.
pub mod Laws
