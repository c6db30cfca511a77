-- The definitions of report, in the order in which to read them.
pub mod Record
pub mod Report
pub mod Claim
pub mod Refusals
pub mod Verdict
pub mod Line
pub mod Request2
pub mod Request4
pub mod Examples
pub mod Inner
