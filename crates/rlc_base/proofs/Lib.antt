pub mod SetLaws
pub mod TableLemmas
