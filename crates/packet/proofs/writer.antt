-- The laws of writer.
pub mod Laws
