pub mod Calls
pub use Rattle.java_expression_parts.specs.Arguments
pub use Rattle.java_expression_parts.specs.CallParts
pub use Rattle.java_expression_parts.specs.ClassNames
pub use Rattle.java_member_rules.specs.Calls as JavaMemberRulesCalls
pub use Rattle.class_members.specs.Members
pub use Rattle.java_expression_parts.specs.Surroundings
pub use Rattle.java_expression_parts.specs.TypedParts
pub use Rattle.java_expression_parts.specs.WrittenTypes
