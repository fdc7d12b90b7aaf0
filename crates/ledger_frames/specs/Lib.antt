pub mod Choosing
pub mod Frames
pub use Rattle.ledger_calls.specs.Conducts
pub use Rattle.ledger_calls.specs.Configuration
pub use Rattle.ledger_operations.specs.Folding
pub use Rattle.ledger_calls.specs.Calls as LedgerCallsCalls
pub use Rattle.ledger_calls.specs.Obligations
pub use Rattle.ledger_operations.specs.Operations
pub use Rattle.ledger_operations.specs.Places
