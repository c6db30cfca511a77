-- The laws of report.
pub mod Demand3
pub mod Refusals
pub mod Request2
pub mod Request4
pub mod Examples
pub use Rattle.report.proofs.line.Laws as LineLaws
