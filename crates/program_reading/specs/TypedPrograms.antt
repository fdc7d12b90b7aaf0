-- The program of the trees of all files, with its typed bodies.
use Rattle.std.specs.Prelude.{◌≡◌, List, []}
use Rattle.rlc_base.specs.declared.faults.Stop.{Stop}
use Rattle.java_syntax.specs.declared.declaration_trees.Unit as tree
use Rattle.java_syntax.specs.declared.settings.Settings.{Settings}
use Rattle.program_model.specs.declared.program.Program.{Program}
use Rattle.class_table.specs.Passes.{IsBuilt, IsTableStop, classes_of}
use Rattle.program_elaboration.specs.MethodBodies.{body_cases}
use Rattle.program_elaboration.specs.ProgramCases.{program_cases, typed_program}
use Rattle.program_elaboration.specs.Elaborations.{IsProgramOf}
use Rattle.program_elaboration.specs.Elaborations.{IsElaborationStop}

-- the table of the classes with the bodies of the sources: no class is refused, methods have bodies exactly where they are not abstract,
-- and nothing in a body is refused
pub record IsTyped (settings : Settings) (sections sources : List tree.Unit) (typed : Program) : Type 0 where
  pub table : Program
  pub built : IsBuilt (classes_of sources sections settings) settings table
  pub due : body_cases sources ≡ []
  pub right : program_cases table sources ≡ []
  pub elaborated : IsProgramOf table (typed_program table sources) typed

-- the table refuses, and else a body; or memory ran out
pub data IsTypingStop (settings : Settings) (sections sources : List tree.Unit) (stop : Stop) : Type 0 where
  by_table : IsTableStop (classes_of sources sections settings) stop → IsTypingStop settings sections sources stop
  by_types : (table : Program) → IsBuilt (classes_of sources sections settings) settings table → IsElaborationStop table sources stop → IsTypingStop settings sections sources stop
