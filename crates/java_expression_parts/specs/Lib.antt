pub mod Arguments
pub mod CallParts
pub mod Surroundings
pub mod TypedParts
pub mod WrittenTypes
pub use Rattle.class_names.specs.ClassNames
