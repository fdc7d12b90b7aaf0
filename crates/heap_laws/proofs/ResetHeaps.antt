-- A heap whose objects are those of another, but that those which a reset reaches are emptied: links and roots are the same.
use Rattle.std.proofs.Common.{◌≡◌, inl, inr, ℕ, zero, suc, Bool, true, false, Option, Some, None, List, length, option_map, nat_eq, refl, sym, ap, ◌∙◌, subst, arith}
use Rattle.program_model.specs.declared.program.Program.{Program}
use Rattle.ledger_state.specs.Contents.{HeapContents}
use Rattle.ledger_state.specs.Heaps.{follow, is_reached, link_of, linked_by, next_number, object_at, root, root_of, root_within}
use Rattle.ledger_state.specs.declared.object.Object.{Object}
use Rattle.ledger_state.specs.declared.value.Value.{Value}
use Rattle.ledger_state.specs.declared.value.Value.TheVariants as values
use Rattle.ledger_obligations.specs.Obligations.{emptied, reset_in}
use Rattle.heap_laws.specs.Anew.{IsEmptied}
use Rattle.heap_laws.proofs.Renewed.{reset_keeps}

-- The objects of the heap `j` are those of the heap `k`, but that those are emptied which the reset of these roots reaches in the heap `c`.
pub record IsResetOf (p : Program) (c : HeapContents) (roots : List ℕ) (k j : HeapContents) : Type 0 where
  pub count : next_number j ≡ next_number k
  pub objects : (n : ℕ) → object_at j n ≡ option_map (reset_in p c roots n) (object_at k n)

module _ (p : Program) (c : HeapContents) (roots : List ℕ) (k j : HeapContents) (it : IsResetOf p c roots k j) where
  -- an object after the reset was there before
  pub reset_back : (n : ℕ) (y : Object) → object_at j n ≡ Some y → (z : Object) × (object_at k n ≡ Some z) × (reset_in p c roots n z ≡ y)
  reset_back n y at = go (object_at k n) refl (sym (it.objects n) ∙ at)
    where
      go : (z : Option Object) → object_at k n ≡ z → option_map (reset_in p c roots n) z ≡ Some y → (w : Object) × (object_at k n ≡ Some w) × (reset_in p c roots n w ≡ y)
      go None before same = absurd (let never : None ≡ Some y = same in cc)
      go (Some z) before same = (z, before, (let one : reset_in p c roots n z ≡ y = cc in one))

  -- and goes on there
  pub reset_forth : (n : ℕ) (z : Object) → object_at k n ≡ Some z → object_at j n ≡ Some (reset_in p c roots n z)
  reset_forth n z at = it.objects n ∙ ap (option_map (reset_in p c roots n)) at

  -- with all but what must be called on it and what was
  pub reset_was : (n : ℕ) (y : Object) → object_at j n ≡ Some y → (z : Object) × (object_at k n ≡ Some z) × (y.class ≡ z.class) × (y.link ≡ z.link) × (y.finished ≡ z.finished) × (y.owner ≡ z.owner)
  reset_was n y at =
      let z = reset_back n y at in
      let keeps = reset_keeps p c roots n z.0 in
      (z.0, z.1, ap (λ (w : Object). w.class) (sym z.2) ∙ keeps.0, ap (λ (w : Object). w.link) (sym z.2) ∙ keeps.1, ap (λ (w : Object). w.finished) (sym z.2) ∙ keeps.2, ap (λ (w : Object). w.owner) (sym z.2) ∙ keeps.3)

  -- what the reset does not reach is as it was
  pub reset_stays : (n : ℕ) (y : Object) → is_reached c roots n ≡ false → object_at j n ≡ Some y → object_at k n ≡ Some y
  reset_stays n y out at =
      let z = reset_back n y at in
      let same : reset_in p c roots n z.0 ≡ z.0 = rw out refl in
      z.1 ∙ ap Some (sym same ∙ z.2)

  -- and what it reaches has no names that were called
  pub reset_empties : (n : ℕ) (z y : Object) → is_reached c roots n ≡ true → object_at k n ≡ Some z → object_at j n ≡ Some y → IsEmptied p z y
  reset_empties n z y is before at =
      let same : reset_in p c roots n z ≡ y = (let both : Some (reset_in p c roots n z) ≡ Some y = sym (reset_forth n z before) ∙ at in cc) in
      let turn : reset_in p c roots n z ≡ emptied p (nat_eq (root c n) n) z = rw is refl in
      subst (IsEmptied p z) (sym turn ∙ same) (by_test (nat_eq (root c n) n))
    where
      by_test : (b : Bool) → IsEmptied p z (emptied p b z)
      by_test true = record { called = refl; must = inl refl }
      by_test false = record { called = refl; must = inr refl }

  same_link : (n : ℕ) → link_of (object_at j n) ≡ link_of (object_at k n)
  same_link n = ap link_of (it.objects n) ∙ go (object_at k n)
    where
      go : (x : Option Object) → link_of (option_map (reset_in p c roots n) x) ≡ link_of x
      go None = refl
      go (Some x) = ap linked_by (reset_keeps p c roots n x).1

  same_way : (i n : ℕ) → root_within i j n ≡ root_within i k n
  same_way zero n = refl
  same_way (suc i) n = ap (λ (x : Option ℕ). follow (root_within i j) n x) (same_link n) ∙ further (link_of (object_at k n)) (λ w. same_way i w)
    where
      further : (x : Option ℕ) → ((w : ℕ) → root_within i j w ≡ root_within i k w) → follow (root_within i j) n x ≡ follow (root_within i k) n x
      further None same = refl
      further (Some w) same = same w

  pub reset_number : (n : ℕ) → root j n ≡ root k n
  reset_number n = ap (λ (i : ℕ). root_within i j n) (let one = it.count in omega (arith, one)) ∙ same_way (length k.objects) n

  -- each value has the same root
  pub reset_root : (v : Value) → root_of j v ≡ root_of k v
  reset_root values.Nothing = refl
  reset_root (values.Object n) = ap Some (reset_number n)
  reset_root v = refl
