pub mod Effects
pub mod InnerSteps
pub mod CallSteps
pub mod Ends
pub use Rattle.must_call_sets.specs.Bodies
pub use Rattle.ledger_calls.specs.Cases
pub use Rattle.ledger_calls.specs.Conducts
pub use Rattle.ledger_entries.specs.Entries
pub use Rattle.ledger_calls.specs.Calls as LedgerCallsCalls
pub use Rattle.must_call_sets.specs.MustCallSets
pub use Rattle.ledger_obligations.specs.Obligations
pub use Rattle.ledger_calls.specs.Results
