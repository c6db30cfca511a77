-- The laws of receiver.
pub mod Laws
pub mod Steps
pub mod Streams
