pub mod Nodes
pub mod Tries
