-- The laws of the receive call.
pub mod Laws
pub mod Following
