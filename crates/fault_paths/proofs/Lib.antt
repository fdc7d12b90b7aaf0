pub mod AnyLaws
pub mod StepLaws
pub mod TestLaws
pub mod ControlLaws
