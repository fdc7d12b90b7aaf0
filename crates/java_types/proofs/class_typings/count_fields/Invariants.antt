use Rattle.std.proofs.Common.{◌≡◌, ◌++◌, map, take}
use Rattle.source_classes.specs.Members.{environment_in}
use Rattle.source_classes.specs.SourceClasses.{source_class_of}
use Rattle.java_types.specs.ProgramCases.{field_cases}
use Rattle.java_types.proofs.class_typings.count_fields.Given as goal

abbrev pub invariant-loop-class : goal.invariant-loop-class
invariant-loop-class l = l.refusals.items ≡ l.fn.refusals.items ++ field_cases (environment_in l.scope) (map source_class_of (take l.class-index l.classes))
