pub use Rattle.java_typed_expressions.proofs.Goodness
pub use Rattle.java_typed_expressions.proofs.WellTyped
