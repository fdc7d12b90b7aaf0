pub mod StatementParts
pub mod Nodes
pub mod Operators
pub mod Parts
pub mod Closed
