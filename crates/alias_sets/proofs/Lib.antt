pub mod AnyLaws
pub mod AliasLaws
pub use Rattle.override_rules.proofs.Elements
