pub mod Inputs
pub mod Names
pub use Rattle.source_files.specs.Reading
