pub mod Searched
pub use Rattle.reached_pairs.specs.Turns
pub use Rattle.reached_pairs.specs.Walks
