-- The laws of encoder.
pub mod Laws
pub mod Lists
