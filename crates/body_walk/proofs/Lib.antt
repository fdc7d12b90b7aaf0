pub mod ReadyLaws
pub use Rattle.graph_relation.proofs.FaultLaws
