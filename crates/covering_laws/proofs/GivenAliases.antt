-- What is given as an alias, in the words of the rule on owning fields.
use Rattle.std.proofs.Common.{◌≡◌, ◌⊎◌, inl, inr, ℕ, zero, suc, Bool, true, false, true≢false, not, ◌&&◌, Option, Some, None, List, [], ◌∷◌, slice_get, refl, sym, ap, ◌∙◌, subst, if◌then◌else◌}
use Rattle.std.specs.FinSet as set
use Rattle.std.specs.List.{list_all, list_any}
use Rattle.std.proofs.lemmas.Bool.{and_from, and_parts, or_left, or_right}
use Rattle.program_model.specs.declared.kinds.ClassId.{ClassId}
use Rattle.program_model.specs.declared.kinds.MethodId.{MethodId}
use Rattle.program_model.specs.declared.kinds.MethodKind.{MethodKind}
use Rattle.program_model.specs.declared.kinds.MethodKind.TheVariants as methods
use Rattle.program_model.specs.declared.kinds.VType.TheVariants as types
use Rattle.program_model.specs.declared.program.Class.{Class}
use Rattle.program_model.specs.declared.program.Method.{Method}
use Rattle.program_model.specs.declared.program.Program.{Program}
use Rattle.program_model.specs.Lookups.{class_at, method_at}
use Rattle.program_model.specs.Overrides.{is_library}
use Rattle.program_model.specs.SuperTests.{classes_above, has_class, is_under}
use Rattle.program_model.specs.Validity.{IsOfKind}
use Rattle.must_call_sets.specs.OwningCases.{given_type, gives_as_alias, is_of_type, may_be_reset}
use Rattle.ledger_obligations.specs.Bodies.{is_constructor_kind}
use Rattle.ledger_obligations.specs.MustCallSets.{is_empty, is_heavy_class, must_in, no_names}
use Rattle.ownership_rules.specs.Signatures.{is_present}
use Rattle.value_laws.specs.Accept.{Accept}
use Rattle.value_laws.specs.PlainForms.{HasPlainForms}
use Rattle.value_laws.proofs.AliasConducts.{IsAliasClass}
use Rattle.covering_laws.specs.Linking.{GivesClass, IsGivenAsAlias}
use Rattle.covering_laws.proofs.LightExceptions.{under_itself}

-- ---- lists

pub some_passes : {X : Type 0} (f : X → Bool) (xs : List X) (i : ℕ) (x : X) → slice_get xs i ≡ Some x → f x ≡ true → list_any f xs ≡ true
some_passes f [] zero x at is = absurd (let never : None ≡ Some x = at in cc)
some_passes f [] (suc i) x at is = absurd (let never : None ≡ Some x = at in cc)
some_passes f (y ∷ ys) zero x at is = or_left (f y) (list_any f ys) (ap f (let both : Some y ≡ Some x = at in (let one : y ≡ x = cc in one)) ∙ is)
some_passes f (y ∷ ys) (suc i) x at is = or_right (f y) (list_any f ys) (some_passes f ys i x at is)

pub every_passes : {X : Type 0} (f : X → Bool) (xs : List X) (i : ℕ) (x : X) → list_all f xs ≡ true → slice_get xs i ≡ Some x → f x ≡ true
every_passes f [] zero x all at = absurd (let never : None ≡ Some x = at in cc)
every_passes f [] (suc i) x all at = absurd (let never : None ≡ Some x = at in cc)
every_passes f (y ∷ ys) zero x all at = ap f (sym (let both : Some y ≡ Some x = at in (let one : y ≡ x = cc in one))) ∙ (and_parts (f y) (list_all f ys) all).0
every_passes f (y ∷ ys) (suc i) x all at = every_passes f ys i x (and_parts (f y) (list_all f ys) all).1 at

-- ---- classes

-- what may be created anew, and is not left unseen, has an obligation
pub seen_is_heavy : (p : Program) (e : ClassId) (k : Class) → class_at p e ≡ Some k → (set.is_subset k.must no_names && may_be_reset p k) ≡ false → may_be_reset p k ≡ true → is_heavy_class p e ≡ true
seen_is_heavy p e k at seen renewed =
    ap (λ (z : Option Class). not (is_empty (must_in z))) at
    ∙ ap not (not_both (set.is_subset k.must no_names) (may_be_reset p k) seen renewed)
  where
    not_both : (a b : Bool) → (a && b) ≡ false → b ≡ true → a ≡ false
    not_both false b none also = refl
    not_both true b none also = absurd (true≢false (sym also ∙ none))

constructor_kind : (k : MethodKind) → is_constructor_kind k ≡ true → k ≡ methods.Ctor
constructor_kind methods.Ctor is = refl
constructor_kind k is = absurd (true≢false (sym is))

module _ (p : Program) (ac : Accept p) where
  -- objects of the class are among those that the method gives
  pub gives_as : (e : ClassId) (k : Class) → class_at p e ≡ Some k → (g : IsGivenAsAlias p e) → gives_as_alias k g.method ≡ true
  gives_as e k at g = and_from (is_present g.method.sig.alias) (is_of_type k (given_type g.method)) (ap is_present g.alias) (by g.class)
    where
      of_class : (d : ClassId) → given_type g.method ≡ Some (types.Obj d) → is_under p e d ≡ true → is_of_type k (given_type g.method) ≡ true
      of_class d type under = ap (is_of_type k) type ∙ sym (ap (λ (z : Option Class). has_class (classes_above e z) d) at) ∙ under

      given_by : (b : Bool) → is_constructor_kind g.method.kind ≡ b → given_type g.method ≡ (if b then Some (types.Obj g.method.class) else g.method.sig.result)
      given_by b is = ap (λ (c : Bool). if c then Some (types.Obj g.method.class) else g.method.sig.result) is

      no_result : (c : ClassId) → g.method.sig.result ≡ Some (types.Obj c) → is_constructor_kind g.method.kind ≡ true → ⊥
      no_result c result makes =
          let none : g.method.sig.result ≡ None = subst (λ z. IsOfKind z g.method.sig) (constructor_kind g.method.kind makes) (ac.well_formed.valid.typed.methods g.number g.method g.at).kind in
          let never : None ≡ Some (types.Obj c) = sym none ∙ result in cc

      by_kind : (c : ClassId) → g.method.sig.result ≡ Some (types.Obj c) → (e ≡ c) ⊎ (is_under p e c ≡ true) → (b : Bool) → is_constructor_kind g.method.kind ≡ b → is_of_type k (given_type g.method) ≡ true
      by_kind c result under true makes = absurd (no_result c result makes)
      by_kind c result (inl same) false makes = of_class c (given_by false makes ∙ result) (ap (is_under p e) (sym same) ∙ under_itself p ac e)
      by_kind c result (inr under) false makes = of_class c (given_by false makes ∙ result) under

      by : GivesClass p g.method e → is_of_type k (given_type g.method) ≡ true
      by (inl own) = of_class g.method.class (given_by true own.0) (ap (is_under p e) (sym own.1) ∙ under_itself p ac e)
      by (inr other) = by_kind other.0 other.1 other.3 (is_constructor_kind g.method.kind) refl

-- what a call of the library gives as an alias is of a class of the library
pub library_class : (p : Program) → HasPlainForms p → (n : MethodId) (m : Method) (e : ClassId) → method_at p n ≡ Some m → is_library p m.class ≡ true → IsAliasClass p m e → GivesClass p m e
library_class p forms n m e at library (inl own) = inl own
library_class p forms n m e at library (inr (c, result, heavy, inl same)) = inr (c, result, heavy, inl same, ap (is_library p) same ∙ forms.given n m c at library result)
library_class p forms n m e at library (inr (c, result, heavy, inr below)) = inr (c, result, heavy, inr below.0, below.1)
