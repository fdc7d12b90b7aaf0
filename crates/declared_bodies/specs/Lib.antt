pub mod Bodies
pub mod SuperCalls
pub use Rattle.body_variables.specs.BodyVariables
pub use Rattle.class_declarations.specs.Members as ClassDeclarationsMembers
pub use Rattle.body_variables.specs.Declarations
pub use Rattle.field_initializers.specs.FieldConstants
pub use Rattle.field_initializers.specs.FieldInitializers
pub use Rattle.field_initializers.specs.Parameters
pub use Rattle.field_initializers.specs.SourceClasses
pub use Rattle.field_initializers.specs.SourceClassesMembers
