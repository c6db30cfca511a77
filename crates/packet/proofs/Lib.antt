-- The laws of packet that the crates above cite.
pub mod Cases
pub mod Calls
pub mod Answering
pub use Rattle.packet.proofs.bytes.Laws as BytesLaws
pub use Rattle.packet.proofs.number.Laws as NumberLaws
pub use Rattle.packet.proofs.stream.Laws as StreamLaws
pub use Rattle.packet.proofs.receiver.Laws as ReceiverLaws
pub use Rattle.packet.proofs.writer.Laws as WriterLaws
