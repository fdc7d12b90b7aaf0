-- Why a table and the bodies of its source files make no program.
use Rattle.std.specs.Prelude.{◌≡◌, ◌⊎◌, Some, List, []}
use Rattle.rlc_base.specs.declared.faults.Refusal.{Refusal}
use Rattle.rlc_base.specs.declared.faults.Stop.{Stop}
use Rattle.rlc_base.specs.declared.faults.Stop.TheVariants as stops
use Rattle.java_syntax.specs.declared.declaration_trees.Unit as tree
use Rattle.program_model.specs.declared.program.Program.{Program}
use Rattle.refusal_order.specs.Refusals.{least}
use Rattle.method_bodies.specs.MethodBodies.{body_cases}
use Rattle.java_elaboration.specs.ProgramCases.{program_cases}
pub use Rattle.java_elaboration.specs.Elaborations.{IsProgramOf}

-- the least refusal of methods whose body is missing or stands where none may, and else that of the program's members and bodies
abbrev pub IsElaborationRefusal : Program → List tree.Unit → Refusal → Type 0
IsElaborationRefusal p units r = (least (body_cases units) ≡ Some r) ⊎ ((body_cases units ≡ []) × (least (program_cases p units) ≡ Some r))

-- there is such a refusal, or memory ran out
abbrev pub IsElaborationStop : Program → List tree.Unit → Stop → Type 0
IsElaborationStop p units (stops.Refused r) = IsElaborationRefusal p units r
IsElaborationStop p units (stops.TooMuch r) = ⊥
IsElaborationStop p units stops.NoMemory = Unit {0}
