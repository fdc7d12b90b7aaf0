pub mod Paths
pub use Rattle.graph_relation.specs.Nodes
pub use Rattle.reached_facts.specs.Origins
pub use Rattle.shortest_paths.specs.Telling
