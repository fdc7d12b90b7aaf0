pub mod Bodies
pub mod Cells
pub mod Flat
pub mod Forest
pub mod StatementCells
pub mod StatementFlat
pub mod StatementForest
pub use Rattle.java_typed_trees.specs.WellFormedStatements
