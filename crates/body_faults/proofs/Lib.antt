pub mod BreachLaws
pub mod JoinLaws
pub mod StepLaws
pub use Rattle.path_faults.proofs.FirstLaws
pub use Rattle.path_faults.proofs.ListedLaws
