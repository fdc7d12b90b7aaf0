-- What holds of a table holds of it with its bodies.
use Rattle.std.proofs.Common.{◌≡◌, sym, subst, arith, ℕ, zero, suc, ◌+◌, List, [], ◌∷◌, All, Result, Ok, Err, IfOk, OnOk}
use Rattle.rlc_base.specs.declared.faults.Stop.{Stop}
use Rattle.java_syntax.specs.declared.declaration_trees.Unit as tree
use Rattle.java_syntax.specs.declared.settings.Settings.{Settings}
use Rattle.program_model.specs.declared.program.Method.{Method}
use Rattle.program_model.specs.declared.program.Program.{Program}
use Rattle.program_model.specs.declared.tree.Body.{Body}
use Rattle.program_elaboration.specs.ProgramBodies.{HasBodies, methods_from}
use Rattle.class_table.specs.Methods.{HasFewParameters}
use Rattle.program_elaboration.specs.MethodBodies.{body_cases}
use Rattle.class_table.specs.Passes.{IsBuilt, classes_of}
use Rattle.program_elaboration.specs.ProgramCases.{program_cases, typed_program}
use Rattle.program_elaboration.specs.Elaborations.{IsProgramOf}
use Rattle.program_reading.specs.TypedPrograms.{IsTyped}

few_from : (bodies : List Body) (first : ℕ) (ms : List Method) → All HasFewParameters ms → All HasFewParameters (methods_from bodies first ms)
few_from bodies first [] few k d h = absurd (omega arith)
few_from bodies first (m ∷ ms) few zero d h = few 0 d (omega arith)
few_from bodies first (m ∷ ms) few (suc k) d h = few_from bodies (first + 1) ms (λ j e g. few (suc j) e (omega arith)) k d (omega arith)

parameters_kept : (p q : Program) (bodies : List Body) → HasBodies p bodies q → All HasFewParameters p.methods.items → All HasFewParameters q.methods.items
parameters_kept p q bodies has few =
    let P : List Method → Type 0 = All HasFewParameters in
    subst P (sym has.methods) (few_from bodies 0 p.methods.items few)

pub parameters_if : (sources : List tree.Unit) (table : Program) (r : Result Program Stop) → All HasFewParameters table.methods.items → IfOk r (IsProgramOf table (typed_program table sources))
    → IfOk r (λ p. All HasFewParameters p.methods.items)
parameters_if sources table (Ok p) few of = parameters_kept table p p.bodies.items of.table few
parameters_if sources table (Err stop) few of = tt

pub typed_if : (settings : Settings) (sections sources : List tree.Unit) (table : Program) (r : Result Program Stop) → IsBuilt (classes_of sources sections settings) settings table → OnOk r (body_cases sources ≡ []) → OnOk r (program_cases table sources ≡ [])
    → IfOk r (IsProgramOf table (typed_program table sources)) → IfOk r (IsTyped settings sections sources)
typed_if settings sections sources table (Ok p) built due right of = record { table = table; built = built; due = due; right = right; elaborated = of }
typed_if settings sections sources table (Err stop) built due right of = tt
