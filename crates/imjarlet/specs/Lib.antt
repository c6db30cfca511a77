-- The definitions of imjarlet, in the order in which to read them.
pub mod Exports
