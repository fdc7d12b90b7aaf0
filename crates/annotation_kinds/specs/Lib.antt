pub mod Annotations
pub mod Positions
