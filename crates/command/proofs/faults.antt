-- The laws of faults.
pub mod Laws
