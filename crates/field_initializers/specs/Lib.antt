pub mod FieldConstants
pub mod FieldInitializers
pub use Rattle.source_classes.specs.Parameters
pub use Rattle.source_classes.specs.SourceClasses
pub use Rattle.source_classes.specs.Members as SourceClassesMembers
pub use Rattle.java_typed_expressions.specs.Typings
pub use Rattle.java_typed_expressions.specs.Cases
