pub mod Inputs
pub mod Fronts
pub use Rattle.file_numbers.specs.Numbering
