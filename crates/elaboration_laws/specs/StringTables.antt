-- What a table must have, beside that it is valid, so that its bodies are typed.
use Rattle.std.specs.Prelude.{◌≡◌, List, All}
use Rattle.java_syntax.specs.declared.declaration_trees.Unit as tree
use Rattle.program_model.specs.declared.program.Program.{Program}
use Rattle.java_typing_laws.specs.Tables.{HasFinalString}
use Rattle.java_elaboration.specs.SourceClasses.{all_names, source_classes}
use Rattle.java_elaboration.specs.Bodies.{SourceBody, all_bodies}
use Rattle.java_elaboration.specs.ProgramCases.{environment_of}
use Rattle.elaboration_laws.specs.NamedTables.{AreNamesOf}

-- the names by which bodies are typed are those of its classes; the class of strings is final and no class of exceptions (JLS 4.3.3,
-- 11.1.1), and no body of the source files is of it
pub record IsStringTable (p : Program) (units : List tree.Unit) : Type 0 where
  pub names : AreNamesOf p (all_names p units)
  pub final : HasFinalString p
  pub others : All (λ (b : SourceBody). b.class'.class' ≡ p.core.string → ⊥) (all_bodies (environment_of p units) (source_classes p units))
