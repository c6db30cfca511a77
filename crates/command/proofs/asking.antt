-- The laws of asking: the steps of the judge call, and what request 5 claims of judging and carrying out.
pub mod Laws
pub mod Ways
pub mod Runs
pub mod Carried
pub mod Drawn
pub mod Refusals
