pub mod Chains
pub mod Elements
pub mod MemberLaws
pub mod Types
