pub mod WalkLaws
pub mod PromiseLaws
pub use Rattle.class_overrides.proofs.Elements
