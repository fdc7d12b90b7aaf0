-- What is linked is an alias, and no exception is one: links are those that were, and the library makes none to an exception.
use Rattle.std.proofs.Common.{◌≡◌, ◌⊎◌, inl, inr, ℕ, zero, suc, Bool, true, false, ◌&&◌, ◌||◌, Option, Some, None, List, [], ◌∷◌, slice_get, refl, sym, ap, ◌∙◌, subst, true≢false}
use Rattle.std.specs.List.{list_any}
use Rattle.std.proofs.lemmas.Bool.{or_parts}
use Rattle.program_model.specs.declared.kinds.ClassId.{ClassId}
use Rattle.program_model.specs.declared.kinds.MethodId.{MethodId}
use Rattle.program_model.specs.declared.kinds.VType.{VType}
use Rattle.program_model.specs.declared.kinds.VType.TheVariants as types
use Rattle.program_model.specs.declared.program.Class.{Class}
use Rattle.program_model.specs.declared.program.Method.{Method}
use Rattle.program_model.specs.declared.program.Program.{Program}
use Rattle.program_model.specs.Lookups.{class_at, method_at}
use Rattle.program_model.specs.SuperTests.{classes_above, has_class, is_class, is_under}
use Rattle.ledger_obligations.specs.AliasCases.{has_exception_under, is_exception_under, may_be_exception}
use Rattle.ledger_obligations.specs.MustCallSets.{is_heavy_class}
use Rattle.ownership_rules.specs.Signatures.{is_present}
use Rattle.value_laws.specs.Accept.{Accept}
use Rattle.ledger_state.specs.Contents.{HeapContents}
use Rattle.ledger_state.specs.Heaps.{object_at}
use Rattle.ledger_state.specs.declared.object.Link.{Link}
use Rattle.ledger_state.specs.declared.object.Object.{Object}
use Rattle.value_laws.proofs.AliasConducts.{GivesObject, gives_object, no_exception}
use Rattle.value_laws.proofs.Cases.{same_class}
use Rattle.covering_laws.specs.Linking.{GivesClass, IsGivenAsAlias, LinkedAreAliases}
use Rattle.covering_laws.specs.Throws.{ExceptionsAreUnlinked}
use Rattle.covering_laws.proofs.LightExceptions.{exceptions_are_light}

-- a linked object of the heap `k` was linked so in the heap `h`
abbrev pub LinkedWere : HeapContents → HeapContents → Type 0
LinkedWere h k = (n : ℕ) (y : Object) (l : Link) → object_at k n ≡ Some y → y.link ≡ Some l → (x : Object) × (object_at h n ≡ Some x) × (x.link ≡ Some l) × (y.class ≡ x.class)

pub still_aliases : (p : Program) (h k : HeapContents) → LinkedWere h k → LinkedAreAliases p h → LinkedAreAliases p k
still_aliases p h k were aliases n y l at some =
    let x = were n y l at some in
    subst (IsGivenAsAlias p) (sym x.3) (aliases n x.0 l x.1 x.2)

-- what has an obligation is no exception
heavy_no_exception : (p : Program) (ac : Accept p) (c : ClassId) → is_heavy_class p c ≡ true → is_under p c p.core.throwable ≡ false
heavy_no_exception p ac c heavy = go (is_under p c p.core.throwable) refl
  where
    go : (b : Bool) → is_under p c p.core.throwable ≡ b → is_under p c p.core.throwable ≡ false
    go true under = absurd (true≢false (sym heavy ∙ exceptions_are_light p ac c under))
    go false out = out

-- ---- nor is what is under the class of an alias

and_right : (a b : Bool) → (a && b) ≡ false → a ≡ true → b ≡ false
and_right true b none is = none
and_right false b none is = absurd (true≢false (sym is))

no_element : {X : Type 0} (i : ℕ) (x : X) → slice_get [] i ≡ Some x → ⊥
no_element zero x is = let never : None ≡ Some x = is in cc
no_element (suc i) x is = let never : None ≡ Some x = is in cc

none_passes : {X : Type 0} (f : X → Bool) (xs : List X) (i : ℕ) (x : X) → list_any f xs ≡ false → slice_get xs i ≡ Some x → f x ≡ false
none_passes f [] i x none at = absurd (no_element i x at)
none_passes f (y ∷ ys) zero x none at = ap f (sym (let both : Some y ≡ Some x = at in (let one : y ≡ x = cc in one))) ∙ (or_parts (f y) (list_any f ys) none).0
none_passes f (y ∷ ys) (suc i) x none at = none_passes f ys i x (or_parts (f y) (list_any f ys) none).1 at

none_under : (p : Program) (a : Option ℕ) (t : Option VType) (k : ℕ) (c : ClassId) → a ≡ Some k → t ≡ Some (types.Obj c) → (is_present a && may_be_exception p t) ≡ false → has_exception_under p c ≡ false
none_under p a t k c some result none = rw (some, result) at none

-- a class that is not in the table is under itself alone
under_none : (p : Program) (c e : ClassId) → has_exception_under p c ≡ false → is_under p c p.core.throwable ≡ false → is_under p e c ≡ true → is_under p e p.core.throwable ≡ false
under_none p c e none own under = go (class_at p e) refl under
  where
    go : (x : Option Class) → class_at p e ≡ x → has_class (classes_above e x) c ≡ true → has_class (classes_above e (class_at p e)) p.core.throwable ≡ false
    go (Some y) at is = ap (λ (z : Option Class). has_class (classes_above e z) p.core.throwable) at
        ∙ and_right (has_class y.above.items c) (has_class y.above.items p.core.throwable) (none_passes (is_exception_under p c) p.classes.items e.0 y none at) is
    go None at is = ap (λ (z : ClassId). is_under p z p.core.throwable) (same_class e c (alone (is_class e c) is)) ∙ own
      where
        alone : (b : Bool) → (b || false) ≡ true → b ≡ true
        alone true is = refl
        alone false is = absurd (true≢false (sym is))

-- nor is what is given as an alias
alias_no_exception : (p : Program) (ac : Accept p) (named : MethodId) (m : Method) → method_at p named ≡ Some m → (k : ℕ) → m.sig.alias ≡ Some k → (e : ClassId) → GivesClass p m e
    → is_under p e p.core.throwable ≡ false
alias_no_exception p ac named m at k alias e is = by is (gives_object p ac.well_formed named m at k alias)
  where
    under_result : (c : ClassId) → m.sig.result ≡ Some (types.Obj c) → is_heavy_class p c ≡ true → (e ≡ c) ⊎ (is_under p e c ≡ true) → is_under p e p.core.throwable ≡ false
    under_result c result heavy (inl same) = ap (λ (z : ClassId). is_under p z p.core.throwable) same ∙ heavy_no_exception p ac c heavy
    under_result c result heavy (inr under) =
        under_none p c e (none_under p m.sig.alias m.sig.result k c alias result (no_exception p ac.well_formed named m at k alias)) (heavy_no_exception p ac c heavy) under

    by : GivesClass p m e → GivesObject p m → is_under p e p.core.throwable ≡ false
    by (inl made) (inl own) = ap (λ (z : ClassId). is_under p z p.core.throwable) made.1 ∙ heavy_no_exception p ac m.class own.1
    by (inl made) (inr own) = absurd (true≢false (sym made.0 ∙ own.0))
    by (inr result) own = under_result result.0 result.1 result.2 result.3

-- so what is linked is no exception
pub exceptions_unlinked : (p : Program) → Accept p → (h : HeapContents) → LinkedAreAliases p h → ExceptionsAreUnlinked p h
exceptions_unlinked p ac h aliases n x l at some =
    let given = aliases n x l at some in alias_no_exception p ac given.number given.method given.at given.position given.alias x.class given.class
