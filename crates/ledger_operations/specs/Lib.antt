pub mod Places
pub mod Operations
pub use Rattle.java_constants.specs.Folding
