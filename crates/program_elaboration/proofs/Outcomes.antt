-- What follows for the program that comes of the table and the bodies, or for the stop.
use Rattle.std.proofs.Common.{◌≡◌, inr, refl, Option, Some, None, List, [], ◌∷◌, Result, Ok, Err, IfErr, IfOk, OnOk}
use Rattle.rlc_base.specs.declared.faults.Refusal.{Refusal}
use Rattle.rlc_base.specs.declared.faults.Stop.{Stop}
use Rattle.rlc_base.specs.declared.faults.Stop.TheVariants as stops
use Rattle.java_syntax.specs.declared.declaration_trees.Unit as tree
use Rattle.program_model.specs.declared.program.Program.{Program}
use Rattle.program_model.specs.Validity.{HasBodies, IsValid}
use Rattle.refusal_order.specs.Refusals.{least, lesser_of}
use Rattle.method_bodies.specs.MethodBodies.{body_cases}
use Rattle.java_elaboration.specs.ProgramCases.{program_cases, typed_program}
use Rattle.java_elaboration.specs.Elaborations.{IsProgramOf}
use Rattle.java_elaboration.specs.Elaborations as bodies
use Rattle.elaboration_laws.proofs.BuiltStrings.{elaborated_valid}
use Rattle.elaboration_laws.proofs.MethodsWithBodies.{has_bodies}
use Rattle.program_elaboration.specs.Elaborations.{IsElaborationStop}
use Rattle.program_elaboration.specs.Tables.{IsTableOf}

pub none_is_least : (xs : List Refusal) → least xs ≡ None → xs ≡ []
none_is_least [] none = refl
none_is_least (x ∷ xs) none = none_at (least xs) none
  where
    none_at : (o : Option Refusal) → lesser_of (Some x) o ≡ None → x ∷ xs ≡ []
    none_at o none = cc

pub on_ok : {A E : Type 0} (r : Result A E) (P : Type 0) → P → OnOk r P
on_ok (Ok x) P is = is
on_ok (Err e) P is = tt

pub valid_if : (units : List tree.Unit) (p : Program) (r : Result Program Stop) → IsTableOf p units → body_cases units ≡ [] → OnOk r (program_cases p units ≡ []) → IfOk r (IsProgramOf p (typed_program p units)) → IfOk r IsValid
valid_if units p (Ok q) t due none made = elaborated_valid units t.stubs t.settings p q t.built due none made
valid_if units p (Err stop) t due none made = tt

pub bodies_if : (units : List tree.Unit) (p : Program) (r : Result Program Stop) → IsTableOf p units → body_cases units ≡ [] → IfOk r (IsProgramOf p (typed_program p units)) → IfOk r HasBodies
bodies_if units p (Ok q) t due made = has_bodies units t.stubs t.settings p q t.built due made
bodies_if units p (Err stop) t due made = tt

pub stopped_if : (units : List tree.Unit) (p : Program) (r : Result Program Stop) → body_cases units ≡ [] → IfErr r (bodies.IsElaborationStop p units) → IfErr r (IsElaborationStop p units)
stopped_if units p (Ok q) due cause = tt
stopped_if units p (Err (stops.Refused x)) due cause = inr (due, cause)
stopped_if units p (Err (stops.TooMuch x)) due cause = cause
stopped_if units p (Err stops.NoMemory) due cause = tt
