pub mod CallLaws
pub use Rattle.java_expression_parts.proofs.Whole
