-- Demands 1 and 2 of the endpoint, requests 2, 4 and 5, and the laws that crates above cite.
pub mod Refusals
pub mod Demand1
pub mod Demand2
pub mod Request2
pub mod Request4
pub mod Request5
pub use Rattle.command.proofs.table.Laws as TableLaws
pub use Rattle.command.proofs.data.Laws as DataLaws
pub use Rattle.command.proofs.rules.Laws as RulesLaws
pub use Rattle.command.proofs.judgement.Laws as JudgementLaws
pub use Rattle.command.proofs.player.Laws as PlayerLaws
pub use Rattle.command.proofs.player.Offences as PlayerOffences
pub use Rattle.command.proofs.endpoint.Laws as EndpointLaws
pub use Rattle.command.proofs.encoder.Lists as EncoderLists
pub use Rattle.command.proofs.asking.Laws as AskingLaws
pub use Rattle.command.proofs.carrying.Laws as CarryingLaws
