mod LineLaws
pub mod ParameterLaws
pub use Rattle.ledger_calls.proofs.Elements
pub use Rattle.ledger_calls.proofs.Walks
