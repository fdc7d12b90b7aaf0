pub mod HeapLemmas
pub mod FieldLemmas
