pub mod Members
pub mod Parameters
pub mod SourceClasses
pub use Rattle.class_declarations.specs.Members as ClassDeclarationsMembers
pub use Rattle.java_statement_rules.specs.DeclaredVariables
pub use Rattle.java_statement_rules.specs.StatementCases
