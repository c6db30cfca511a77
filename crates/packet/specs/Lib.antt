-- The definitions of packet, in the order in which to read them.
pub mod Number
pub mod Packet
pub mod Stream
pub mod Receiver
pub mod Writer
pub mod Answer
pub mod Calls
