-- The laws of player.
pub mod Laws
pub mod Turns
pub mod Offences
