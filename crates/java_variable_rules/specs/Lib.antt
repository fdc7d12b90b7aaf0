pub mod Assignments
pub mod Fields
pub mod Names
pub use Rattle.java_member_rules.specs.Assignments as JavaMemberRulesAssignments
pub use Rattle.java_member_rules.specs.Fields as JavaMemberRulesFields
pub use Rattle.java_member_rules.specs.Names as JavaMemberRulesNames
