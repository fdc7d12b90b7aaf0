pub mod ControlLaws
pub mod FaultLaws
pub mod FewLaws
pub mod ListedLaws
pub mod OnceLaws
pub mod TraceLaws
pub use Rattle.obligation_paths.proofs.OriginLaws
