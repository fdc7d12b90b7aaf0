pub mod ObligationLemmas
pub mod SuperPassLemmas
