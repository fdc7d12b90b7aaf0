pub mod FactLaws
pub mod ListPoints
pub mod PathLaws
pub mod PointLaws
pub mod ReachedLaws
pub use Rattle.body_origins.proofs.OriginLaws
pub use Rattle.fact_search.proofs.SearchedLaws
