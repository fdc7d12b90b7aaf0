pub mod PoolLaws
pub mod LimitLaws
pub mod PrintLaws
pub mod CountLaws
pub use Rattle.java_cfg.proofs.ListLemmas
pub use Rattle.obligation_flow.proofs.OriginLaws
pub use Rattle.graph_limits.proofs.StepRooms
