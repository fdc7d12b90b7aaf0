-- What the typing of bodies reads, made of its three parts.
use Rattle.std.proofs.Common.{◌≡◌, ◌∙◌, sym, ap, ℤ, Option, List, refl}
use Rattle.java_syntax.specs.declared.declaration_trees.Unit.{Unit}
use Rattle.program_model.specs.declared.program.Program.{Program}
use Rattle.class_names.specs.declared.class_name.ClassName.{ClassName}
use Rattle.java_bodies.specs.FieldConstants.{field_constants}
use Rattle.java_bodies.specs.Bodies.{all_bodies}
use Rattle.source_classes.specs.Members.{Environment}
use Rattle.source_classes.specs.SourceClasses.{SourceClass, all_names, source_classes}
use Rattle.java_types.specs.ProgramCases.{environment_of, typed_program}
use Rattle.java_types.specs.TypedBodies.{TypedBody, typed_bodies}

made_of : Program → List ClassName → List (Option ℤ) → Environment
made_of p names constants = record { program = p; classes = names; constants = constants }

pub typed_by : (p : Program) (units : List Unit) (names : List ClassName) (classes : List SourceClass) (constants : List (Option ℤ)) (made : List TypedBody) → names ≡ all_names p units → classes ≡ source_classes p units → constants ≡ field_constants p names classes → made ≡ typed_bodies (record { program = p; classes = names; constants = constants }) (all_bodies (record { program = p; classes = names; constants = constants }) classes) → made ≡ typed_program p units
typed_by p units names classes constants made is_names is_classes is_constants is_made = cc
