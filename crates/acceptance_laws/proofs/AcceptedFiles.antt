-- The program of files in which no fault is counted is accepted.
use Rattle.std.proofs.Common.{◌≡◌, ◌∙◌, sym, refl, List, [], ◌∷◌, ◌++◌}
use Rattle.program_model.specs.declared.kinds.ClassId.{ClassId}
use Rattle.program_model.specs.declared.program.Program.{Program}
use Rattle.accepted_programs.specs.Cases.{class_cases}
use Rattle.program_reading.specs.SourceClasses.{source_classes}
use Rattle.program_reading.specs.ProgramCases.{environment_of, member_cases, typing_cases}
use Rattle.program_reading.proofs.SignedTwice.{signed_twice}
use Rattle.accepted_programs.specs.Accept.{Accept}
use Rattle.program_reading.specs.Programs.{Input, IsProgram}
use Rattle.program_reading.specs.TypedPrograms.{IsTyped}
use Rattle.program_faults.specs.ProgramReports.{IsFaultCount, IsFaulty}
use Rattle.acceptance_laws.proofs.ReadExceptions.{covers}
use Rattle.acceptance_laws.proofs.Rooms.{PassesNoLimit, counted_small, small_fits}
use Rattle.acceptance_laws.proofs.SameCases.{same_cases}
use Rattle.acceptance_laws.proofs.SignedTables.{no_cases, signed_tables}
use Rattle.acceptance_laws.proofs.Declared.{read_once}

cons_is_nil : {X : Type 0} (x : X) (xs : List X) → ◌≡◌ {A = List X} (x ∷ xs) [] → ⊥
cons_is_nil x xs h = cc

nil_left : {X : Type 0} (xs ys : List X) → xs ++ ys ≡ [] → xs ≡ []
nil_left [] ys h = refl
nil_left (x ∷ xs) ys h = absurd (cons_is_nil x (xs ++ ys) h)

overriding : (input : Input) (p : Program) (is : IsProgram input p) (c : ClassId) → class_cases p c ≡ []
overriding input p is c =
    let typed : IsTyped input.settings is.sections is.sources is.typed = is.is_typed in
    let table : Program = typed.table in
    let members : member_cases table ≡ [] = nil_left (member_cases table) (typing_cases (environment_of table is.sources) (source_classes table is.sources)) typed.right in
    sym (same_cases table p (signed_tables table is.typed p is.typed.bodies.items typed.elaborated.table is.annotated.signed) c) ∙ no_cases table members c

-- the program of files in which no body passes a limit on controls and places, and no path breaks a rule
pub faultless_accepted : (input : Input) (p : Program) → IsProgram input p → PassesNoLimit p → (IsFaulty p → ⊥) → Accept p
faultless_accepted input p is small none = record {
  well_formed = is.well_formed;
  declares_once = read_once input p is;
  overriding = overriding input p is;
  annotations = is.annotated.right;
  signatures = signed_twice is.typed p is.annotated.signed;
  covers = covers input p is;
  fits = small_fits p (λ f x found. (is.well_formed.valid.typed.fields f x found).listed) small;
  no_fault = λ b o rule at names faulty. none (record { body = b; origin = o; rule = rule; at = at; names = names; faulty = faulty });
}

pub counted_accepted : (input : Input) (p : Program) → IsProgram input p → IsFaultCount p 0 → (IsFaulty p → ⊥) → Accept p
counted_accepted input p is counted none = faultless_accepted input p is (counted_small p 0 counted) none
