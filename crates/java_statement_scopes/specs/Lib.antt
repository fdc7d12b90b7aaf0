pub mod Clauses
pub mod Scopes
pub mod VariableCounts
