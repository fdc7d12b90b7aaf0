pub mod Resets
pub use Rattle.must_call_sets.specs.OwningCases
pub use Rattle.must_call_sets.specs.ResetCases
