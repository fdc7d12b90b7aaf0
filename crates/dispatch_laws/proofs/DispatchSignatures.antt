-- What a caller is told by the signature of the named method, of the method of the program that runs.
use Rattle.std.proofs.Common.{◌≡◌, ◌∙◌, ap, refl, sym, subst, eqb-true, true≢false, ℕ, zero, suc, true, false, ◌&&◌, not, Option, Some, None, List, [], ◌∷◌}
use Rattle.std.specs.Prelude.{slice_get}
use Rattle.std.specs.FinSet as set
use Rattle.std.specs.List.{All, list_all}
use Rattle.std.proofs.lemmas.Bool.{and_parts, not-false, or_parts}
use Rattle.std.proofs.lemmas.List.Elements.{All-cons, All-nil}
use Rattle.program_model.specs.declared.kinds.MethodId.{MethodId}
use Rattle.program_model.specs.declared.kinds.Target.{Target}
use Rattle.program_model.specs.declared.kinds.Target.TheVariants as promised
use Rattle.program_model.specs.declared.program.Method.{Method}
use Rattle.program_model.specs.declared.program.ParamSig.{ParamSig}
use Rattle.program_model.specs.declared.program.Program.{Program}
use Rattle.program_model.specs.declared.program.Promise.{Promise}
use Rattle.program_model.specs.Lookups.{method_at}
use Rattle.program_model.specs.Overrides.{is_library}
use Rattle.annotation_rules.specs.AliasCases.{is_same_position}
use Rattle.agreement.specs.Bodies.{is_constructor_kind}
use Rattle.annotation_rules.specs.MustCallSets.{Names}
use Rattle.agreement.specs.OverrideCases.{asks_for_more, is_field_target, keeps, keeps_at, promises_less, promises_on_field}
use Rattle.annotation_rules.specs.Signatures.{is_present}
use Rattle.agreement.specs.Accept.{Accept}
use Rattle.agreement.specs.PlainForms.{IsKeptBy, KeepsPromises, RunsFor}
use Rattle.dispatch_laws.specs.Dispatch.{IsOverriding, IsRightOverriding, KeepsSignature}
use Rattle.dispatch_laws.proofs.Overriding.{right_overriding}
use Rattle.dispatch_laws.proofs.OverridingSignatures.{own_signature}
use Rattle.dispatch_laws.proofs.Annotated.{no_first_set}
use Rattle.dispatch_laws.proofs.Results.{same_result}

-- ---- parameters and positions

no_element : {X : Type 0} (i : ℕ) (x : X) → slice_get [] i ≡ Some x → ⊥
no_element zero x is = let never : None ≡ Some x = is in cc
no_element (suc i) x is = let never : None ≡ Some x = is in cc

asks_no_more : (xs ys : List ParamSig) (k : ℕ) (x y : ParamSig) → asks_for_more xs ys ≡ false → slice_get xs k ≡ Some x → slice_get ys k ≡ Some y → set.is_subset x.before y.before ≡ true
asks_no_more [] ys k x y none at_x at_y = absurd (no_element k x at_x)
asks_no_more (a ∷ xs) [] k x y none at_x at_y = absurd (no_element k y at_y)
asks_no_more (a ∷ xs) (b ∷ ys) zero x y none at_x at_y =
    let first : a ≡ x = cc in
    let second : b ≡ y = cc in
    let here : set.is_subset a.before b.before ≡ true = not-false (set.is_subset a.before b.before) (or_parts (not (set.is_subset a.before b.before)) (asks_for_more xs ys) none).0 in
    subst (λ (z : ParamSig). set.is_subset x.before z.before ≡ true) second (subst (λ (z : ParamSig). set.is_subset z.before b.before ≡ true) first here)
asks_no_more (a ∷ xs) (b ∷ ys) (suc k) x y none at_x at_y =
    asks_no_more xs ys k x y (or_parts (not (set.is_subset a.before b.before)) (asks_for_more xs ys) none).1 at_x at_y

pub one_position : (a b : Option ℕ) → is_same_position a b ≡ true → a ≡ b
one_position None None same = refl
one_position None (Some k) same = absurd (true≢false (sym same))
one_position (Some j) None same = absurd (true≢false (sym same))
one_position (Some j) (Some k) same = ap Some (eqb-true j k same)

-- where the position of one is the other's, if there is one
kept_position : (a b : Option ℕ) → (is_present a && not (is_same_position a b)) ≡ false → (k : ℕ) → a ≡ Some k → b ≡ Some k
kept_position None b kept k is = absurd (let never : None ≡ Some k = is in cc)
kept_position (Some j) b kept k is = sym (one_position (Some j) b (not-false (is_same_position (Some j) b) kept)) ∙ is

not_present : {X : Type 0} (o : Option X) → is_present o ≡ false → o ≡ None
not_present None is = refl
not_present (Some x) is = absurd (true≢false is)

-- ---- signatures

module _ (p : Program) (ac : Accept p) (m r : MethodId) (n x : Method) (at_n : method_at p m ≡ Some n) (at_x : method_at p r ≡ Some x) where
  by_signature : KeepsSignature p x n → is_constructor_kind x.kind ≡ is_constructor_kind n.kind → n.sig.first ≡ None → RunsFor p n x
  by_signature kept makes first = record {
    types = kept.types;
    owning = kept.owning;
    asks = λ k a b at_a at_b. asks_no_more x.sig.params.items n.sig.params.items k a b kept.before at_a at_b;
    result = kept.result;
    wider = kept.wider;
    kind = λ t is light. same_result p x.sig.result n.sig.result t (ac.well_formed.valid.typed.methods r x at_x).signature.result (ac.well_formed.valid.typed.methods m n at_n).signature.result kept.result_type is light;
    makes = makes;
    first = first;
    alias = one_position x.sig.alias n.sig.alias kept.alias;
    reset = kept_position x.sig.reset n.sig.reset kept.reset;
  }

  -- a method of the program that overrides the named one
  pub overriding_runs_for : IsOverriding p x n → is_library p x.class ≡ false → RunsFor p n x
  overriding_runs_for over own =
      let right : IsRightOverriding p x n = right_overriding p ac.well_formed ac.overriding x n over in
      by_signature right.signature (ap is_constructor_kind right.kind ∙ sym (ap is_constructor_kind right.named_kind))
      (not_present n.sig.first (sym (ap (λ b. not b && is_present n.sig.first) own) ∙ right.first_set))

  -- a method of the library that overrides the named one, which is the program's
  pub library_runs_for : IsOverriding p x n → is_library p n.class ≡ false → RunsFor p n x
  library_runs_for over own =
      let right : IsRightOverriding p x n = right_overriding p ac.well_formed ac.overriding x n over in
      by_signature right.signature (ap is_constructor_kind right.kind ∙ sym (ap is_constructor_kind right.named_kind)) (no_first_set p ac m n at_n own)

  -- the named method itself
  pub named_runs_for : x ≡ n → is_library p x.class ≡ false → RunsFor p n x
  named_runs_for same own =
      let kept : KeepsSignature p x n = subst (λ (z : Method). KeepsSignature p z n) (sym same) (own_signature p ac.well_formed.valid.typed.hierarchy n) in
      by_signature kept (ap (λ (z : Method). is_constructor_kind z.kind) same) (no_first_set p ac m n at_n (sym (ap (λ (z : Method). is_library p z.class) same) ∙ own))

-- ---- promises

module _ (made : List Promise) where
  kept_at : (t : Target) (names : Names) → keeps_at made t names ≡ true → is_field_target t ≡ false → IsKeptBy made t names
  kept_at (promised.At k) names keeps' none = keeps'
  kept_at (promised.OfField f) names keeps' none = absurd (true≢false none)

  kept_all : (asked : List Promise) → list_all (keeps made) asked ≡ true → promises_on_field asked ≡ false → All (λ (q : Promise). IsKeptBy made q.target q.names) asked
  kept_all [] all none = All-nil (λ (q : Promise). IsKeptBy made q.target q.names)
  kept_all (q ∷ qs) all none =
      let parts = and_parts (keeps made q) (list_all (keeps made) qs) all in
      let fields = or_parts (is_field_target q.target) (promises_on_field qs) none in
      All-cons (λ (z : Promise). IsKeptBy made z.target z.names) q qs (kept_at q.target q.names parts.0 fields.0) (kept_all qs parts.1 fields.1)

  pub kept_promises : (asked : List Promise) → promises_less made asked ≡ false → promises_on_field asked ≡ false → All (λ (q : Promise). IsKeptBy made q.target q.names) asked
  kept_promises asked less none = kept_all asked (not-false (list_all (keeps made) asked) less) none

-- what overrides a method that promises nothing on a field as it returns keeps its promises (none overrides one that promises on a field as it throws)
pub overriding_keeps : (p : Program) → Accept p → (n x : Method) → IsOverriding p x n → promises_on_field n.sig.promises.items ≡ false → KeepsPromises n x
overriding_keeps p ac n x over none =
    let right : IsRightOverriding p x n = right_overriding p ac.well_formed ac.overriding x n over in
    record {
      returning = kept_promises x.sig.promises.items n.sig.promises.items right.signature.promises none;
      throwing = kept_promises x.sig.on_throw.items n.sig.on_throw.items right.signature.on_throw right.on_field;
    }
