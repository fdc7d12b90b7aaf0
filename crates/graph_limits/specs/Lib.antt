pub mod ListedFields
pub use Rattle.graph_relation.specs.Nodes
pub use Rattle.graph_relation.specs.Pairs
