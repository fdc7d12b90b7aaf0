-- The program that the files of a command make, and the first refusal where they make none.
use Rattle.std.specs.Prelude.{ℕ, List}
use Rattle.rlc_base.specs.declared.faults.Stop.{Stop}
use Rattle.java_syntax.specs.declared.declaration_trees.Unit as tree
use Rattle.java_syntax.specs.declared.settings.Settings.{Settings}
use Rattle.program_model.specs.declared.program.Program.{Program}
use Rattle.signed_programs.specs.WellFormed.{IsWellFormed}
use Rattle.signed_programs.specs.RulePasses.{HasNoRuleCase}
use Rattle.command_trees.specs.Fronts.{IsFilesStop, IsFront}
use Rattle.signed_programs.specs.SignedPrograms.{IsAnnotated, IsSigningStop}
use Rattle.program_reading.specs.TypedPrograms.{IsTyped, IsTypingStop}

-- what a command reads: its settings, and the file words with the texts of their files, in the order of the words
pub record Input : Type 0 where
  pub settings : Settings
  pub words : List (List ℕ)
  pub texts : List (List ℕ)

-- The program of the input: nothing in its files is refused, and no rule on signatures refuses it. It is well formed: its tables belong
-- together, its bodies are typed trees, and each method that runs a body has it.
pub record IsProgram (input : Input) (p : Program) : Type 0 where
  pub sections : List tree.Unit
  pub sources : List tree.Unit
  pub typed : Program
  pub front : IsFront input.words input.texts sections sources
  pub is_typed : IsTyped input.settings sections sources typed
  pub annotated : IsAnnotated typed p
  pub right : HasNoRuleCase p
  pub well_formed : IsWellFormed p

-- Why there is no program: the first that refuses of the tokens and trees of the files, the table, the types, the annotations and the
-- rules on signatures; or memory ran out.
pub data IsProgramStop (input : Input) (stop : Stop) : Type 0 where
  by_files : IsFilesStop input.words input.texts stop → IsProgramStop input stop
  by_typing : (sections sources : List tree.Unit) → IsFront input.words input.texts sections sources → IsTypingStop input.settings sections sources stop → IsProgramStop input stop
  by_signing : (sections sources : List tree.Unit) (typed : Program) → IsFront input.words input.texts sections sources → IsTyped input.settings sections sources typed → IsSigningStop typed stop
      → IsProgramStop input stop
