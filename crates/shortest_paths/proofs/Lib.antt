pub mod TellingLaws
pub use Rattle.reached_facts.proofs.FactLaws
pub use Rattle.reached_facts.proofs.ListPoints
pub use Rattle.flow_rules.proofs.NumberingLaws
pub use Rattle.reached_facts.proofs.PathLaws
pub use Rattle.reached_facts.proofs.ReachedLaws
pub use Rattle.reached_facts.proofs.SearchedLaws
