pub mod CalledRows
pub mod Preconditions
pub mod Promises
pub use Rattle.must_call_sets.specs.OverrideCases
