pub mod Configuration
pub mod Calls
pub mod Conducts
pub use Rattle.class_overrides.specs.Cases
pub use Rattle.ledger_obligations.specs.Obligations
pub use Rattle.class_overrides.specs.Results
