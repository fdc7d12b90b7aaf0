pub mod MostSpecific
pub mod Overloads
pub use Rattle.java_conversions.specs.Conversions
