pub mod Files
pub mod InTurn
pub mod Settings
pub mod Trees
pub use Rattle.java_parser.specs.FileTrees
