pub mod NumberingLaws
pub use Rattle.called_methods.proofs.CallNames
pub use Rattle.alias_sets.proofs.Elements
