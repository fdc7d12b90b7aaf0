pub mod ProgramCases
pub mod TypedBodies
pub use Rattle.java_bodies.specs.Bodies
pub use Rattle.class_names.specs.ClassNames
pub use Rattle.java_bodies.specs.Declarations
pub use Rattle.refusal_order.specs.Refusals
pub use Rattle.source_classes.specs.SourceClasses
pub use Rattle.source_classes.specs.Members as SourceClassesMembers
