pub mod AboveLemmas
pub mod CycleLemmas
pub mod KnownLemmas
pub mod SearchLemmas
pub mod SuperLemmas
