-- All refusals of the bodies, the field initialisers and the overriding methods of a program. The least of them stands.
use Rattle.std.specs.Prelude.{ℕ, ◌+◌, List, [], ◌∷◌, ◌++◌}
use Rattle.std.specs.List.{flat_map}
use Rattle.rlc_base.specs.declared.faults.Refusal.{Refusal}
use Rattle.java_syntax.specs.declared.declaration_trees.Unit.{Unit}
use Rattle.program_model.specs.declared.program.Class.{Class}
use Rattle.program_model.specs.declared.program.Program.{Program}
use Rattle.class_names.specs.ClassNames.{class_number}
use Rattle.class_overrides.specs.Cases.{class_cases}
use Rattle.source_classes.specs.Members.{Environment}
use Rattle.source_classes.specs.SourceClasses.{SourceClass, all_names, source_classes}
use Rattle.java_bodies.specs.FieldConstants.{field_constants}
use Rattle.java_bodies.specs.FieldInitializers.{static_cases}
use Rattle.java_bodies.specs.Bodies.{SourceBody, all_bodies, body_cases}
use Rattle.java_types.specs.TypedBodies.{TypedBody, typed_bodies}

-- what the typing of all bodies reads
abbrev pub environment_of : Program → List Unit → Environment
environment_of p units = record { program = p; classes = all_names p units; constants = field_constants p (all_names p units) (source_classes p units) }

-- the bodies of the source files with their typed statements
abbrev pub typed_program : Program → List Unit → List TypedBody
typed_program p units = typed_bodies (environment_of p units) (all_bodies (environment_of p units) (source_classes p units))

-- overriding methods (JLS 8.4.8) and methods without a body (JLS 8.1.1.1), of classes where the first has the number `first`
abbrev pub member_cases_from : Program → ℕ → List Class → List Refusal
member_cases_from p first [] = []
member_cases_from p first (k ∷ ks) = class_cases p (class_number first) ++ member_cases_from p (first + 1) ks

-- those of all classes
abbrev pub member_cases : Program → List Refusal
member_cases p = member_cases_from p 0 p.classes.items

-- static fields that cannot take their initialisers
abbrev pub field_cases : Environment → List SourceClass → List Refusal
field_cases e classes = flat_map (static_cases e) classes

-- the bodies, with the instance fields' initialisers
abbrev pub bodies_cases : Environment → List SourceBody → List Refusal
bodies_cases e bodies = flat_map (body_cases e) bodies

abbrev pub typing_cases : Environment → List SourceClass → List Refusal
typing_cases e classes = field_cases e classes ++ bodies_cases e (all_bodies e classes)

abbrev pub program_cases : Program → List Unit → List Refusal
program_cases p units = member_cases p ++ typing_cases (environment_of p units) (source_classes p units)
