pub mod LoopLemmas
pub mod StepLemmas
