-- The laws of dlpc200.
pub mod Playing
pub mod Faults
pub mod Refusals
pub mod Request1
pub mod Examples
