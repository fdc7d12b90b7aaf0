-- All that the typing of an expression may read beside the expression.
use Rattle.std.specs.Prelude.{ℤ, Option, List}
use Rattle.program_model.specs.declared.kinds.ClassId.{ClassId}
use Rattle.class_names.specs.declared.class_name.ClassName.{ClassName}
use Rattle.class_names.specs.Meanings.{CompilationUnit, unit_of}
use Rattle.java_typed_trees.specs.Names.{Context, context_of}
use Rattle.java_expression_parts.specs.declared.surroundings.BodyScope.{BodyScope}

-- where an expression stands, with what its names may mean
pub record Surroundings : Type 0 where
  -- the program, the class, the variables in scope and the classes of exceptions that are caught or declared
  pub context : Context
  -- the names of all classes of the program, in class order
  pub classes : List ClassName
  -- the compilation unit in which it stands, which says what a simple name of a class means (JLS 6.4.1)
  pub unit : CompilationUnit
  -- the class whose constructor or field initialiser it stands in, if it stands in one (JLS 8.3.1.2)
  pub initialized : Option ClassId
  -- the value of each field that is a constant variable of a primitive type (JLS 4.12.4), by the field's number
  pub constants : List (Option ℤ)

abbrev pub surroundings_of : BodyScope → Surroundings
surroundings_of b = record { context = context_of b.scope; classes = b.names.now; unit = unit_of b.unit; initialized = b.initialized; constants = b.constants.now }
