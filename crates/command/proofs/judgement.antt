-- The laws of judgement.
pub mod Laws
pub mod Called
