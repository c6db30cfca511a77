-- The laws of controller.
pub mod Laws
