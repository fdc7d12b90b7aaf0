-- Each method of an elaborated program that runs a body has it.
use Rattle.std.proofs.Common.{◌≡◌, ◌∙◌, sym, ap, subst, refl, arith, ℕ, zero, suc, ◌+◌, false, Option, Some, None, List, [], ◌∷◌}
use Rattle.std.specs.Prelude.{slice_get}
use Rattle.std.specs.List.{Contains}
use Rattle.std.specs.Option.{IsSomeAnd}
use Rattle.java_syntax.specs.declared.declaration_trees.Unit as tree
use Rattle.java_syntax.specs.declared.settings.Settings.{Settings}
use Rattle.program_model.specs.declared.program.Class.{Class}
use Rattle.program_model.specs.declared.program.Method.{Method}
use Rattle.program_model.specs.declared.program.Program.{Program}
use Rattle.program_model.specs.declared.tree.Body.{Body}
use Rattle.program_model.specs.Validity.{RunsBody}
use Rattle.program_model.specs.Validity as validity
use Rattle.java_elaboration.specs.ProgramBodies.{body_number, methods_from, with_body}
use Rattle.method_bodies.specs.MethodBodies.{body_cases}
use Rattle.class_table.specs.Passes.{IsBuilt, classes_of}
use Rattle.java_elaboration.specs.SourceClassesMembers.{Environment}
use Rattle.java_elaboration.specs.SourceClasses.{source_classes}
use Rattle.java_elaboration.specs.Bodies.{SourceBody, all_bodies}
use Rattle.java_elaboration.specs.ProgramCases.{environment_of, typed_program}
use Rattle.java_elaboration.specs.Elaborations.{IsProgramOf}
use Rattle.elaboration_laws.specs.MethodNumbers.{method_numbers}
use Rattle.elaboration_laws.proofs.RunningBodies.{methods_have_bodies}
use Rattle.elaboration_laws.proofs.SingleBodies.{body_methods, has_number, methods_are}

none_is_some : {X : Type 0} (x : X) → ◌≡◌ {A = Option X} None (Some x) → ⊥
none_is_some x h = cc

same_some : {X : Type 0} (x y : X) → ◌≡◌ {A = Option X} (Some x) (Some y) → x ≡ y
same_some x y h = cc

-- the method of the table, which has the number of its body in the program
record IsMethodFrom (bodies : List Body) (ms : List Method) (first n : ℕ) (x : Method) : Type 0 where
  method : Method
  at : slice_get ms n ≡ Some method
  is : with_body (body_number bodies (first + n)) method ≡ x

method_from : (bodies : List Body) (first : ℕ) (ms : List Method) (n : ℕ) (x : Method) → slice_get (methods_from bodies first ms) n ≡ Some x → IsMethodFrom bodies ms first n x
method_from bodies first [] n x at = absurd (none_is_some x at)
method_from bodies first (m ∷ ms) zero x at =
    let start : first + 0 ≡ first = omega arith in
    record { method = m; at = refl; is = ap (λ (k : ℕ). with_body (body_number bodies k) m) start ∙ same_some (with_body (body_number bodies first) m) x at }
method_from bodies first (m ∷ ms) (suc n) x at =
    let f = method_from bodies (first + 1) ms n x at in
    let next : first + suc n ≡ first + 1 + n = omega arith in
    record { method = f.method; at = f.at; is = ap (λ (k : ℕ). with_body (body_number bodies k) f.method) next ∙ f.is }

pub has_bodies : (units stubs : List tree.Unit) (settings : Settings) (p q : Program) → IsBuilt (classes_of units stubs settings) settings p → body_cases units ≡ [] → IsProgramOf p (typed_program p units) q → validity.HasBodies q
has_bodies units stubs settings p q built none made m x at runs =
    let e : Environment = environment_of p units in
    let bs : List SourceBody = all_bodies e (source_classes p units) in
    let bodies : List Body = q.bodies.items in
    let f = method_from bodies 0 p.methods.items m.0 x (ap (λ (ms : List Method). slice_get ms m.0) (sym made.table.methods) ∙ at) in
    let y : Method = f.method in
    let C : List Class → Method → Type 0 = λ ks z. IsSomeAnd (slice_get ks z.class.0) (λ k. k.library ≡ false) in
    let runs_y : RunsBody p y = (
      ap (λ (z : Method). z.is_abstract) f.is ∙ runs.0,
      ap (λ (z : Method). validity.is_constant z.kind) f.is ∙ runs.1,
      subst (λ (ks : List Class). C ks y) made.table.classes (subst (C q.classes.items) (sym f.is) runs.2),
    ) in
    let listed : Contains (method_numbers bs) m.0 = methods_have_bodies units stubs settings e built.table built.valid.typed none m y f.at runs_y in
    let there : Contains (body_methods bodies) m.0 = subst (λ (ns : List ℕ). Contains ns m.0) (sym (methods_are e bs bodies made.laid)) listed in
    let start : 0 + m.0 ≡ m.0 = omega arith in
    let number : IsSomeAnd (body_number bodies (0 + m.0)) (λ b. Unit {0}) = subst (λ (k : ℕ). IsSomeAnd (body_number bodies k) (λ b. Unit {0})) (sym start) (has_number bodies m.0 there) in
    subst (λ (z : Method). IsSomeAnd z.body (λ b. Unit {0})) f.is number
