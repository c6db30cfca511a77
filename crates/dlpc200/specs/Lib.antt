-- The definitions of dlpc200, in the order in which to read them.
pub mod Packet
pub mod Table
pub mod States
pub mod Status
pub mod Judgement
pub mod Response
pub mod Playing
pub mod Device
pub mod Endpoint
pub mod Sending
pub mod Request1
pub mod Examples
pub mod Inner
