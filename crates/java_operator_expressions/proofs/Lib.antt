pub use Rattle.java_operator_rules.proofs.RuleLaws
