-- What is given for the method that a case names.
use Rattle.std.specs.Prelude.{◌≡◌, ℕ, Bool, Some, None, Result, Ok, Err, List}
use Rattle.case_files.specs.declared.faults.FormFail.{FormFail}
use Rattle.case_files.specs.declared.faults.FormFail.TheVariants as fails
use Rattle.graph_words.specs.Answers.{IsAnswer, refusal_line}
use Rattle.graph_words.specs.Names.{body_named}
use Rattle.program_model.specs.declared.kinds.BodyId.{BodyId}
use Rattle.program_model.specs.declared.program.Program.{Program}
use Rattle.rlc_base.specs.declared.faults.Stop.{Stop}
use Rattle.rlc_base.specs.declared.faults.Stop.TheVariants as stops

-- why the case has no program
abbrev pub IsStopLine : Stop → List ℕ → Type 0
IsStopLine (stops.Refused r) text = text ≡ refusal_line r
IsStopLine (stops.TooMuch r) text = text ≡ refusal_line r
IsStopLine stops.NoMemory text = ⊥

-- the text is the graph of the first body that is named so, or the refusal of the body or of the program
abbrev pub IsGiven : Result Program Stop → List ℕ → Bool → List ℕ → Type 0
IsGiven (Ok p) name with_arcs text = (number : BodyId) × ((body_named p name p.methods.items ≡ Some number) × IsAnswer p number with_arcs text)
IsGiven (Err stop) name with_arcs text = IsStopLine stop text

-- no body of the program is named so
abbrev pub IsUnnamed : Result Program Stop → List ℕ → Type 0
IsUnnamed (Ok p) name = body_named p name p.methods.items ≡ None
IsUnnamed (Err stop) name = ⊥

-- why nothing is given
abbrev pub IsGiveFault : Result Program Stop → List ℕ → FormFail → Type 0
IsGiveFault program name fails.Section = IsUnnamed program name
IsGiveFault program name fails.NoMemory = Unit {0}
IsGiveFault program name fails.NotRead = ⊥
IsGiveFault program name fails.NotText = ⊥
IsGiveFault program name (fails.NoSection line) = ⊥
IsGiveFault program name fails.Escape = ⊥
