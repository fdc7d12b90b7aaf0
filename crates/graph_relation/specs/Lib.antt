pub use Rattle.body_origins.specs.Births
pub use Rattle.body_origins.specs.Nodes
pub use Rattle.body_origins.specs.Pairs
pub use Rattle.body_origins.specs.Paths
pub use Rattle.body_origins.specs.Room
