pub mod Conditions
pub mod Expressions
