pub mod StatementCases
pub mod StatementCompletions
pub mod StatementContexts
pub mod StatementTrees
pub use Rattle.java_statement_parts.specs.Cases
pub use Rattle.java_statement_rules.specs.Contexts
pub use Rattle.java_statement_scopes.specs.Scopes
pub use Rattle.java_statement_scopes.specs.VariableCounts
