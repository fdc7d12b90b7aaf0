pub mod Visited
pub mod Additions
pub mod Trails
pub use Rattle.breadth_first.specs.Searches
pub use Rattle.breadth_first.specs.Turns
pub use Rattle.breadth_first.specs.Walks
