-- What a method gives whose result owes nothing, whatever class it is of: an object with no obligation, which is linked to none.
use Rattle.std.proofs.Common.{◌≡◌, ℕ, zero, suc, ◌<◌, Bool, true, false, true≢false, not, ◌||◌, Option, Some, None, List, [], ◌∷◌, length, slice_get, refl, sym, ap, ◌∙◌, eqb-true, arith}
use Rattle.std.specs.List.{list_all, list_any}
use Rattle.std.proofs.lemmas.Bool.{and_parts, not-true}
use Rattle.program_model.specs.declared.kinds.ClassId.{ClassId}
use Rattle.program_model.specs.declared.kinds.VType.TheVariants as types
use Rattle.program_model.specs.declared.program.Class.{Class}
use Rattle.program_model.specs.declared.program.Program.{Program}
use Rattle.program_model.specs.Lookups.{class_at}
use Rattle.program_model.specs.SuperTests.{classes_above, has_class, is_class, is_under}
use Rattle.must_call_sets.specs.OwningCases.{gives_as_alias}
use Rattle.ledger_obligations.specs.MustCallSets.{is_empty, is_heavy_class, must_in}
use Rattle.ledger_state.specs.Contents.{HeapContents}
use Rattle.ledger_state.specs.Heaps.{object_at, root}
use Rattle.ledger_state.specs.declared.object.Link.{Link}
use Rattle.ledger_state.specs.declared.object.Object.{Object}
use Rattle.value_laws.specs.Accept.{Accept}
use Rattle.value_laws.specs.PlainForms.{all_owe_nothing, owes_nothing}
use Rattle.value_laws.proofs.HeapLaws.{roots_of_links-itself}
use Rattle.covering_laws.specs.Linking.{IsGivenAsAlias, LinkedAreAliases}
use Rattle.covering_laws.proofs.GivenAliases.{every_passes, gives_as, some_passes}

element_there : {X : Type 0} (xs : List X) (k : ℕ) → k < length xs → (x : X) × (slice_get xs k ≡ Some x)
element_there [] k inside = absurd (omega (arith, inside))
element_there (x ∷ xs) zero inside = (x, refl)
element_there (x ∷ xs) (suc k) inside = element_there xs k (omega (arith, inside))

module _ (p : Program) (ac : Accept p) (c : ClassId) (light : all_owe_nothing p (Some (types.Obj c)) ≡ true) (known : c.0 < length p.classes.items) where
  parts : (not (is_under p p.core.string c) ≡ true) × (list_all (λ (k : Class). not (has_class k.above.items c) || owes_nothing p k) p.classes.items ≡ true)
  parts = and_parts (not (is_under p p.core.string c)) (list_all (λ (k : Class). not (has_class k.above.items c) || owes_nothing p k) p.classes.items) light

  -- it is no class above `String`
  pub apart_from_strings : is_under p p.core.string c ≡ false
  apart_from_strings = not-true (is_under p p.core.string c) parts.0

  one : (b : Bool) → (b || false) ≡ true → b ≡ true
  one true is = refl
  one false is = absurd (true≢false (sym is))

  second : (a b : Bool) → (not a || b) ≡ true → a ≡ true → b ≡ true
  second true b is passes = is
  second false b is passes = absurd (true≢false (sym passes))

  not_so : (b : Bool) → not b ≡ true → b ≡ true → ⊥
  not_so true is never = true≢false (sym is)
  not_so false is never = true≢false (sym never)

  -- objects of a class under it
  light_class : (e : ClassId) → is_under p e c ≡ true → (is_heavy_class p e ≡ false) × (IsGivenAsAlias p e → ⊥)
  light_class e under = go (class_at p e) refl under
    where
      go : (z : Option Class) → class_at p e ≡ z → is_under p e c ≡ true → (is_heavy_class p e ≡ false) × (IsGivenAsAlias p e → ⊥)
      go None at is =
          let same : e.0 ≡ c.0 = eqb-true e.0 c.0 (one (is_class e c) (sym (ap (λ (z : Option Class). has_class (classes_above e z) c) at) ∙ is)) in
          let class : e ≡ c = λ i. record { 0 = same i } in
          let there = element_there p.classes.items c.0 known in
          absurd (let never : None ≡ Some there.0 = sym at ∙ ap (class_at p) class ∙ there.1 in cc)
      go (Some k) at is =
          let is_in : owes_nothing p k ≡ true =
          second (has_class k.above.items c) (owes_nothing p k) (every_passes (λ (z : Class). not (has_class z.above.items c) || owes_nothing p z) p.classes.items e.0 k parts.1 at)
          (sym (ap (λ (z : Option Class). has_class (classes_above e z) c) at) ∙ is) in
          let both = and_parts (is_empty k.must) (not (list_any (gives_as_alias k) p.methods.items)) is_in in (
            ap (λ (z : Option Class). not (is_empty (must_in z))) at ∙ ap not both.0,
            λ g. not_so (list_any (gives_as_alias k) p.methods.items) both.1 (some_passes (gives_as_alias k) p.methods.items g.number.0 g.method g.at (gives_as p ac e k at g)),
          )

  -- the root of such an object is itself, and has no obligation
  pub light_root : (h : HeapContents) → LinkedAreAliases p h → (k o : ℕ) (x y : Object) → object_at h k ≡ Some x → is_under p x.class c ≡ true → root h k ≡ o → object_at h o ≡ Some y → is_heavy_class p y.class ≡ true → ⊥
  light_root h aliases k o x y at under root_is there heavy = by x.link refl
    where
      its : (is_heavy_class p x.class ≡ false) × (IsGivenAsAlias p x.class → ⊥)
      its = light_class x.class under

      by : (l : Option Link) → x.link ≡ l → ⊥
      by (Some l) link = its.1 (aliases k x l at link)
      by None link =
          let itself : k ≡ o = sym (roots_of_links-itself h k x at link) ∙ root_is in
          let both : Some x ≡ Some y = sym at ∙ ap (object_at h) itself ∙ there in
          let same : x ≡ y = cc in
          true≢false (sym heavy ∙ ap (λ (u : Object). is_heavy_class p u.class) (sym same) ∙ its.0)
