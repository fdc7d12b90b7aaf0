-- The bodies of an elaborated program are typed bodies of its table.
use Rattle.std.proofs.Common.{◌≡◌, ◌∙◌, ℕ, zero, suc, Option, Some, None, List, [], ◌∷◌, ◌++◌, All, flat_map, map, slice_get, refl, sym, subst, ap}
use Rattle.std.specs.List.{AllZip}
use Rattle.std.proofs.lemmas.List.Elements.{All-head, All-tail}
use Rattle.rlc_base.specs.declared.faults.Refusal.{Refusal}
use Rattle.java_syntax.specs.declared.declaration_trees.Unit as tree
use Rattle.program_model.specs.declared.kinds.BodyId.{BodyId}
use Rattle.program_model.specs.declared.program.Program.{Program}
use Rattle.program_model.specs.declared.tree.Body.{Body}
use Rattle.program_model.specs.Lookups.{body_at}
use Rattle.program_model.specs.Validity.{IsTypedProgram}
use Rattle.java_elaboration.specs.ProgramBodies.{HasBodies}
use Rattle.java_typing_laws.proofs.Goodness.{nil_left, nil_right}
use Rattle.java_typing_laws.proofs.Conversions.{none_is_some, same_in}
use Rattle.java_elaboration.specs.SourceClassesMembers.{Environment}
use Rattle.java_elaboration.specs.SourceClasses.{SourceClass, source_classes}
use Rattle.java_elaboration.specs.Bodies.{SourceBody, all_bodies, body_cases}
use Rattle.java_elaboration.specs.ProgramCases.{bodies_cases, environment_of, field_cases, member_cases, program_cases, typed_program, typing_cases}
use Rattle.java_elaboration.specs.TypedBodies.{TypedBody, typed_body}
use Rattle.java_elaboration.specs.Elaborations.{IsBodyOf, IsProgramOf}
use Rattle.elaboration_laws.specs.BodiesOfPrograms.{AreTypedBodies, IsTypedBody}
use Rattle.elaboration_laws.proofs.KeptValidity.{with_bodies_typed}
use Rattle.elaboration_laws.specs.LaidBodies.{IsLaidFrom}
use Rattle.elaboration_laws.proofs.LaidBodyLaws.{laid_body_typed}
use Rattle.elaboration_laws.specs.ElaboratedBodies.{HasSingleTrees, IsBodyInTable}

-- ---- the body of the source files that a body is laid from

record IsAcceptedBody (e : Environment) (x : Body) : Type 0 where
  body : SourceBody
  table : IsBodyInTable e body
  none : body_cases e body ≡ []
  laid : IsBodyOf (typed_body e body) x

accepted_at : (e : Environment) (bs : List SourceBody) (xs : List Body) → All (IsBodyInTable e) bs → bodies_cases e bs ≡ [] → AllZip IsBodyOf (map (typed_body e) bs) xs → (n : ℕ) (x : Body) → slice_get xs n ≡ Some x → IsAcceptedBody e x
accepted_at e [] [] tables none laid n x found = absurd (none_is_some x found)
accepted_at e [] (y ∷ ys) tables none laid n x found = absurd laid
accepted_at e (b ∷ bs) [] tables none laid n x found = absurd laid
accepted_at e (b ∷ bs) (y ∷ ys) tables none laid zero x found = record {
  body = b;
  table = All-head (IsBodyInTable e) b bs tables;
  none = nil_left (body_cases e b) (bodies_cases e bs) none;
  laid = subst (λ (z : Body). IsBodyOf (typed_body e b) z) (same_in y x found) laid.0;
}
accepted_at e (b ∷ bs) (y ∷ ys) tables none laid (suc n) x found = accepted_at e bs ys (All-tail (IsBodyInTable e) b bs tables) (nil_right (body_cases e b) (bodies_cases e bs) none) laid.1 n x found

-- ---- all bodies

abbrev number : ℕ → BodyId
number n = record { 0 = n }

pub elaborated_typed : (p : Program) (units : List tree.Unit) (q : Program) → IsTypedProgram p → All (IsBodyInTable (environment_of p units)) (all_bodies (environment_of p units) (source_classes p units)) → program_cases p units ≡ [] → IsProgramOf p (typed_program p units) q → HasSingleTrees q → IsTypedProgram q
elaborated_typed p units q valid tables none is trees =
    let e : Environment = environment_of p units in
    let classes : List SourceClass = source_classes p units in
    let bs : List SourceBody = all_bodies e classes in
    let none_bodies : bodies_cases e bs ≡ [] = nil_right (field_cases e classes) (bodies_cases e bs) (nil_right (member_cases p) (typing_cases e classes) none) in
    let each = λ (n : ℕ) (x : Body) (found : slice_get q.bodies.items n ≡ Some x).
    let a = accepted_at e bs q.bodies.items tables none_bodies is.laid n x found in
    let from : IsLaidFrom e a.body x = record { method = a.laid.method; variables = a.laid.variables; laid = a.laid.laid } in
    laid_body_typed e a.body a.table.typed a.table.runs a.none x from (trees.trees (number n) x found) in
    let typed : AreTypedBodies p q.bodies.items = record { few = trees.few; single = trees.single; each = each } in
    let table : HasBodies p q.bodies.items q = is.table in
    with_bodies_typed p q.bodies.items q valid typed table
