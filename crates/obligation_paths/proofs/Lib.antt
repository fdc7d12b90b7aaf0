pub mod BirthLaws
pub mod WalkLaws
pub mod BreakingLaws
pub mod ControlLaws
pub use Rattle.reached_facts.proofs.FactLaws
pub use Rattle.graph_relation.proofs.NodeLaws
pub use Rattle.reached_facts.proofs.OriginLaws
pub use Rattle.shortest_paths.proofs.TellingLaws
