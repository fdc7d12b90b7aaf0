pub mod Elaborations
pub use Rattle.java_types.specs.Bodies
pub use Rattle.java_types.specs.Declarations
pub use Rattle.program_bodies.specs.ProgramBodies
pub use Rattle.java_types.specs.ProgramCases
pub use Rattle.java_types.specs.SourceClasses
pub use Rattle.java_types.specs.SourceClassesMembers
pub use Rattle.java_types.specs.TypedBodies
