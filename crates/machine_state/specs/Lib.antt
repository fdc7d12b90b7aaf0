pub mod RunStates
pub use Rattle.ledger_runs.specs.Frames
pub use Rattle.ledger_runs.specs.Outcomes as LedgerRunsOutcomes
pub use Rattle.ledger_runs.specs.Steps as LedgerRunsSteps
pub use Rattle.ledger_runs.specs.Moves
