-- The ways upwards through owners, over a step: each object has an owner that is no field, or the one that it had, or a field of an object
-- from which the way ends.
use Rattle.std.proofs.Common.{◌≡◌, ◌⊎◌, inl, inr, ℕ, zero, suc, ◌<◌, ◌≤◌, Bool, true, false, Option, Some, None, length, slice_get, refl, sym, ap, ◌∙◌, subst, true≢false, if◌then◌else◌, arith}
use Rattle.std.proofs.lemmas.Option.{slice_get-get_or}
use Rattle.program_model.specs.declared.kinds.FieldId.{FieldId}
use Rattle.ledger_state.specs.Contents.{HeapContents}
use Rattle.ledger_state.specs.Heaps.{next_number, object_at}
use Rattle.ledger_state.specs.declared.entry.Owner.{Owner}
use Rattle.ledger_state.specs.declared.entry.Owner.TheVariants as owners
use Rattle.ledger_state.specs.declared.object.Object.{Object}
use Rattle.ledger_steps.specs.Obligations.{given_up, is_unmet}
use Rattle.agreement.specs.Heaps.{IsKeptOr}
use Rattle.agreement.proofs.LibraryCallLaws.{numbers_are_in_range}
use Rattle.agreement.specs.Chains.{Ends, HaveEnds, IsLast, ends_here, of_field}

-- the object has the owner that it had
abbrev pub IsSame : Object → Object → Type 0
IsSame x y = (y.owner ≡ x.owner) × (y.finished ≡ x.finished)

-- it is owned by a field of an object from which the way upwards ends
pub record IsStoredIn (k : HeapContents) (y : Object) : Type 0 where
  pub holder : ℕ
  pub field : FieldId
  pub owner : y.owner ≡ owners.Field holder field
  pub finished : y.finished ≡ true
  pub object : Object
  pub there : object_at k holder ≡ Some object
  pub ends : Ends k object.owner

-- no field owns it, and nobody does where it is not finished
abbrev pub IsLastOwned : Object → Type 0
IsLastOwned y = IsLast y.owner × ((y.finished ≡ true) ⊎ (y.owner ≡ owners.Unowned))

abbrev pub IsOwnedAs : HeapContents → HeapContents → ℕ → Object → Type 0
IsOwnedAs h k n y = IsLastOwned y ⊎ (((x : Object) × (object_at h n ≡ Some x) × IsSame x y) ⊎ IsStoredIn k y)

no_object : {X : Type 0} (x : X) → None ≡ Some x → ⊥
no_object x is = cc

-- each number below that of the next object is that of one
pub object_there : (k : HeapContents) (n : ℕ) (d : Object) → 0 < n → n < next_number k → (y : Object) × (object_at k n ≡ Some y)
object_there k zero d some small = absurd (omega (arith, some))
object_there k (suc i) d some small = go (slice_get k.objects i) refl
  where
    inside : i < length k.objects
    inside = omega (arith, small)

    go : (o : Option Object) → slice_get k.objects i ≡ o → (y : Object) × (slice_get k.objects i ≡ Some y)
    go (Some y) is = (y, is)
    go None is = absurd (no_object _ (sym is ∙ slice_get-get_or k.objects i d inside))

module _ (h k : HeapContents) (have : HaveEnds h) (more : next_number h ≤ next_number k) (from : (n : ℕ) (y : Object) → object_at k n ≡ Some y → IsOwnedAs h k n y) where
  there : (n : ℕ) (x : Object) → object_at h n ≡ Some x → (y : Object) × (object_at k n ≡ Some y)
  there n x at = let range = numbers_are_in_range h n x at in let some = range.0 in let below = range.1 in object_there k n x some (omega (arith, below, more))

  stored_ends : (y : Object) → IsStoredIn k y → Ends k y.owner
  stored_ends y s = subst (Ends k) (sym s.owner) (of_field s.holder s.field s.object s.there s.ends)

  -- the owner of an object that was there, where the way from its owner before ends
  by_owner : (n : ℕ) (x y : Object) → object_at h n ≡ Some x → Ends k x.owner → IsOwnedAs h k n y → Ends k y.owner
  by_owner n x y at up (inl is) = ends_here y.owner is.0
  by_owner n x y at up (inr (inl same)) =
      let one : same.0 ≡ x = (let both : Some same.0 ≡ Some x = sym same.1 ∙ at in cc) in
      subst (Ends k) (sym (same.2.0 ∙ ap (λ (z : Object). z.owner) one)) up
  by_owner n x y at up (inr (inr stored)) = stored_ends y stored

  still_ends : (o : Owner) → Ends h o → Ends k o
  still_ends _ (ends_here o is) = ends_here o is
  still_ends _ (of_field w f x at rest) = let y = there w x at in of_field w f y.0 y.1 (by_owner w x y.0 at (still_ends x.owner rest) (from w y.0 y.1))

  all_end : (n : ℕ) (y : Object) → IsOwnedAs h k n y → Ends k y.owner
  all_end n y (inl is) = ends_here y.owner is.0
  all_end n y (inr (inl same)) = subst (Ends k) (sym same.2.0) (still_ends same.0.owner (have.ends n same.0 same.1))
  all_end n y (inr (inr stored)) = stored_ends y stored

  none_owned : (n : ℕ) (y : Object) → y.finished ≡ false → IsOwnedAs h k n y → y.owner ≡ owners.Unowned
  none_owned n y unmade (inl is) = elim is.1 [
    | inl made ↦ absurd (true≢false (sym made ∙ unmade))
    | inr none ↦ none
  ]
  none_owned n y unmade (inr (inl same)) = same.2.0 ∙ have.unfinished n same.0 same.1 (sym same.2.1 ∙ unmade)
  none_owned n y unmade (inr (inr stored)) = absurd (true≢false (sym stored.finished ∙ unmade))

  pub ends_on : HaveEnds k
  ends_on = record { ends = λ n y at. all_end n y (from n y at); unfinished = λ n y at unmade. none_owned n y unmade (from n y at) }

-- ---- what is given up

pub given_up_last : (x : Object) → IsLast (given_up x).owner
given_up_last x = go (is_unmet x)
  where
    go : (b : Bool) → IsLast (if b then owners.Lost else owners.Released)
    go true = tt
    go false = tt

-- what is given up is finished
pub kept_owner : (test : Bool) (x y : Object) → (test ≡ true → x.finished ≡ true) → IsKeptOr test x y → IsLastOwned y ⊎ IsSame x y
kept_owner test x y made (inl same) = inr (ap (λ (z : Object). z.owner) same, ap (λ (z : Object). z.finished) same)
kept_owner test x y made (inr given) =
    inl (subst (λ (z : Object). IsLast z.owner) (sym given.1) (given_up_last x), inl (ap (λ (z : Object). z.finished) given.1 ∙ made given.0))

-- what a frame or a field owns is finished, where nobody owns what is not
pub owned_is_finished : (h : HeapContents) → HaveEnds h → (n : ℕ) (x : Object) (test : Owner → Bool) → test owners.Unowned ≡ false → object_at h n ≡ Some x → test x.owner ≡ true → x.finished ≡ true
owned_is_finished h have n x test none at is = go x.finished refl
  where
    go : (b : Bool) → x.finished ≡ b → b ≡ true
    go true made = refl
    go false unmade = absurd (true≢false (sym is ∙ ap test (have.unfinished n x at unmade) ∙ none))
