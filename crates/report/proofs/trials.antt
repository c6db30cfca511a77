-- The laws of trials.
pub mod Laws
pub mod Turns
