pub mod PickLaws
pub mod EntryLaws
pub use Rattle.must_call_sets.proofs.InterestLaws
pub use Rattle.obligation_facts.proofs.SmallOperands
