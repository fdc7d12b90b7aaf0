pub mod NestedTrees
pub mod Outcomes
pub mod Lists
pub mod Values
pub mod Kinds
pub mod Leaves
