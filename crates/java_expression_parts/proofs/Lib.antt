pub mod ArgumentLaws
pub mod ContextLaws
pub mod Nodes
pub mod Whole
