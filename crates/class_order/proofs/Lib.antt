pub mod CaseLemmas
pub mod DeclarationLemmas
pub mod LeastLemmas
