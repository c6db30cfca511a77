-- The laws of verdict.
pub mod Laws
