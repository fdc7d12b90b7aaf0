pub mod Arrays
pub mod Casts
pub mod Conditionals
pub mod Literals
pub mod Operators
pub use Rattle.java_constants.specs.Folding
