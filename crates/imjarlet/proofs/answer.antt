-- The laws of answer.
pub mod Laws
