pub mod Steps
pub mod Points
pub mod Reading
pub use Rattle.body_origins.specs.Nodes
pub use Rattle.body_origins.specs.Numbering
pub use Rattle.body_origins.specs.Origins
pub use Rattle.body_origins.specs.Pairs
pub use Rattle.fact_search.specs.Searched
