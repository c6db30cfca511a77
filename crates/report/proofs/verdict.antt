-- The laws of verdict.
pub mod Same
pub mod Laid
pub mod Reading
pub mod Laws
