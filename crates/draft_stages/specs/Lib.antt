pub mod Stages
pub use Rattle.ledger_calls.specs.Calls as LedgerCallsCalls
