pub mod DoubleLemmas
pub mod TypeLemmas
