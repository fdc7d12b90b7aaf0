pub mod RunAnswers
pub use Rattle.ledger_interp.specs.Mains
pub use Rattle.ledger_interp.specs.Runs
