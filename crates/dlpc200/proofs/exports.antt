-- The laws of exports.
pub mod Laws
