pub mod ModeLemmas
pub mod NumberLemmas
pub mod WordLemmas
pub mod WorkedRows
