pub mod BornOrigins
pub mod OriginLaws
pub use Rattle.flow_rules.proofs.NumberingLaws
