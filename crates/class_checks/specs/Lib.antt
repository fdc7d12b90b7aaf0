pub mod DoubleMembers
pub mod MemberKeys
pub mod TypeCases
