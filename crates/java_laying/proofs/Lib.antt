pub mod BodyLaws
pub mod Forests
pub mod Joins
pub mod Nodes
pub mod Parents
pub mod StatementForests
pub mod StatementNodes
pub mod StatementParents
