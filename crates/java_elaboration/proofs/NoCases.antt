-- Where nothing is refused, nothing in it is refused.
use Rattle.std.proofs.Common.{◌≡◌, ◌∙◌, subst, sym, List, [], ◌∷◌, ◌++◌, All, refl, Option, Some, None}
use Rattle.std.proofs.lemmas.List.Elements.{All-cons, All-head, All-nil, All-tail}
use Rattle.java_syntax.specs.declared.declaration_trees.Unit.{Unit}
use Rattle.rlc_base.specs.declared.faults.Refusal.{Refusal}
use Rattle.program_model.specs.declared.program.Program.{Program}
use Rattle.java_types.specs.Refusals.{least, lesser_of}
use Rattle.java_types.specs.SourceClassesMembers.{Environment}
use Rattle.java_types.specs.SourceClasses.{source_classes}
use Rattle.java_types.specs.Bodies.{SourceBody, all_bodies, body_cases}
use Rattle.java_types.specs.ProgramCases.{bodies_cases, environment_of, field_cases, member_cases, program_cases, typed_program, typing_cases}
use Rattle.java_types.specs.TypedBodies.{TypedBody, typed_bodies, typed_body}
use Rattle.java_elaboration.specs.Elaborations.{AreWellFormedUnlessRefused, HasWellFormedStatements, IsWellFormedUnlessRefused}

pub none_is_least : (xs : List Refusal) → least xs ≡ None → xs ≡ []
none_is_least [] none = refl
none_is_least (x ∷ xs) none = none_at x (least xs) none
  where
    none_at : (x : Refusal) (o : Option Refusal) → lesser_of (Some x) o ≡ None → x ∷ xs ≡ []
    none_at x o none = cc

left_of_none : {X : Type 0} (xs ys : List X) → xs ++ ys ≡ [] → xs ≡ []
left_of_none [] ys none = refl
left_of_none (x ∷ xs) ys none = cc

right_of_none : {X : Type 0} (xs ys : List X) → xs ++ ys ≡ [] → ys ≡ []
right_of_none [] ys none = none
right_of_none (x ∷ xs) ys none = cc

bodies_well_formed : (e : Environment) (bodies : List SourceBody) → All (IsWellFormedUnlessRefused e) bodies → bodies_cases e bodies ≡ [] → All HasWellFormedStatements (typed_bodies e bodies)
bodies_well_formed e [] law none = All-nil HasWellFormedStatements
bodies_well_formed e (b ∷ bodies) law none =
    All-cons HasWellFormedStatements (typed_body e b) (typed_bodies e bodies) (All-head (IsWellFormedUnlessRefused e) b bodies law (left_of_none (body_cases e b) (bodies_cases e bodies) none))
    (bodies_well_formed e bodies (All-tail (IsWellFormedUnlessRefused e) b bodies law) (right_of_none (body_cases e b) (bodies_cases e bodies) none))

pub program_well_formed : (p : Program) (units : List Unit) → AreWellFormedUnlessRefused p units → program_cases p units ≡ [] → All HasWellFormedStatements (typed_program p units)
program_well_formed p units law none =
    let e : Environment = environment_of p units in
    let typing : typing_cases e (source_classes p units) ≡ [] = right_of_none (member_cases p) (typing_cases e (source_classes p units)) none in
    bodies_well_formed e (all_bodies e (source_classes p units)) law (right_of_none (field_cases e (source_classes p units)) (bodies_cases e (all_bodies e (source_classes p units))) typing)

pub typings_well_formed : (p : Program) (units : List Unit) (typings : List TypedBody) (refusals : List Refusal) → typings ≡ typed_program p units → refusals ≡ program_cases p units → least refusals ≡ None → AreWellFormedUnlessRefused p units → All HasWellFormedStatements typings
typings_well_formed p units typings refusals typed cases none law =
    let A : List TypedBody → Type 0 = All HasWellFormedStatements in
    subst A (sym typed) (program_well_formed p units law (sym cases ∙ none_is_least refusals none))
