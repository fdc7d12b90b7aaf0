pub mod ArgumentLaws
pub mod FindLaws
pub mod PositionLaws
pub use Rattle.class_overrides.proofs.Elements
pub use Rattle.class_overrides.proofs.Walks
