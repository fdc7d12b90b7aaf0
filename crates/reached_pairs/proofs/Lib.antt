pub mod VisitLaws
pub mod Reading
pub mod Adding
pub mod Outcomes
pub mod TrailLaws
pub use Rattle.breadth_first.proofs.ListLaws
pub use Rattle.breadth_first.proofs.SearchLaws
pub use Rattle.breadth_first.proofs.TurnLaws
