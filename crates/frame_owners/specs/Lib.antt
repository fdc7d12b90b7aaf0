pub mod FrameOwners
pub use Rattle.ledger_obligations.specs.Obligations
