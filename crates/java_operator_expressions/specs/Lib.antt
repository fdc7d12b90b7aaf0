pub mod OperatorExpressions
pub mod Operators
pub use Rattle.java_operator_rules.specs.Arrays
pub use Rattle.java_operator_rules.specs.Casts
pub use Rattle.java_operator_rules.specs.Conditionals
pub use Rattle.java_operator_rules.specs.Folding
pub use Rattle.java_operator_rules.specs.Operators as JavaOperatorRulesOperators
pub use Rattle.java_operator_rules.specs.Literals
