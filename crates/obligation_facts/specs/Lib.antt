pub mod Callees
pub mod Facts
pub mod SmallActions
