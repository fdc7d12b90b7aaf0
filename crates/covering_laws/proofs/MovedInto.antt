-- The first two of the three things that a store into an owning field does: what the field held is given up, and the value moves into it, which the frame that stores owned.
use Rattle.std.proofs.Common.{◌≡◌, ◌⊎◌, inl, inr, ℕ, ◌+◌, Bool, true, false, refl, sym, ap, ◌∙◌, subst, true≢false, if◌then◌else◌, Some}
use Rattle.program_model.specs.declared.kinds.FieldId.{FieldId}
use Rattle.program_model.specs.declared.program.Program.{Program}
use Rattle.ledger_obligations.specs.MustCallSets.{is_heavy_class}
use Rattle.ledger_obligations.specs.Obligations.{given_up, is_unmet, moved_in, type_of_field}
use Rattle.program_model.specs.Lookups.{field_at}
use Rattle.ledger_state.specs.Contents.{HeapContents}
use Rattle.ledger_state.specs.Heaps.{object_at, put_field}
use Rattle.ledger_state.specs.declared.entry.Owner.{Owner}
use Rattle.ledger_state.specs.declared.entry.Owner.TheVariants as owners
use Rattle.ledger_state.specs.declared.object.Object.{Object}
use Rattle.ledger_state.specs.declared.value.Value.{Value}
use Rattle.value_laws.specs.Chains.{HaveEnds}
use Rattle.value_laws.specs.PlaceFacts.{IsHeavyObject, is_given_up}
use Rattle.value_laws.specs.Stores.{IsMovedIn, IsStored}
use Rattle.value_laws.proofs.RootLaws.{one_object}
use Rattle.value_laws.proofs.StoredObjects.{moved_back}
use Rattle.value_laws.proofs.StoreResets.{moves_on}
use Rattle.value_laws.proofs.StoreWays.{StoredOwner, StoresInto, joins, leaves, stays}
use Rattle.value_laws.proofs.Returned.{finished_by}

-- `mine` says that what moves in, and has an obligation, is the frame's, or the field owned it
module _ (p : Program) (h : HeapContents) (have : HaveEnds h) (w : ℕ) (f : FieldId) (bound : Bool) (v : Value) (m : ℕ)
    (mine : (n : ℕ) (x : Object) → object_at h n ≡ Some x → IsMovedIn p h f v n x → is_heavy_class p x.class ≡ true → (x.owner ≡ owners.Frame (m + 1)) ⊎ (x.owner ≡ owners.Field w f)) where
  -- the heap then
  abbrev pub moved_heap : HeapContents
  moved_heap = put_field w f v (moved_in p h w f bound v)

  -- each object was there, and is as it was, given up, or owned by the field
  was : (n : ℕ) (x z : Object) → object_at h n ≡ Some x → object_at moved_heap n ≡ Some z → IsStored p h w f v n x z
  was n x z at now =
      let y = moved_back p h w f v bound n z now in
      subst (λ (u : Object). IsStored p h w f v n u z) (one_object y.0 x (object_at h n) y.1 at) y.2

  gives_up : (x : Object) → is_given_up (given_up x).owner ≡ true
  gives_up x = go (is_unmet x)
    where
      go : (b : Bool) → is_given_up (if b then owners.Lost else owners.Released) ≡ true
      go true = refl
      go false = refl

  goes : (n : ℕ) (x z : Object) → object_at h n ≡ Some x → IsHeavyObject p x → IsStored p h w f v n x z → StoredOwner m w x.owner z.owner
  goes n x z at heavy (inl same) = stays (ap (λ (u : Object). u.owner) same)
  goes n x z at heavy (inr (inl gone)) = leaves f gone.0.owner (ap (λ (u : Object). is_given_up u.owner) gone.1 ∙ gives_up x)
  goes n x z at heavy (inr (inr into)) = elim (mine n x at into.0 heavy.1) [
    | inl own ↦ joins f own (ap (λ (u : Object). u.owner) into.1)
    | inr field ↦ stays (ap (λ (u : Object). u.owner) into.1 ∙ sym field)
  ]

  unmade : (n : ℕ) (x z : Object) → object_at h n ≡ Some x → x.finished ≡ false → IsStored p h w f v n x z → z.owner ≡ x.owner
  unmade n x z at open' (inl same) = ap (λ (u : Object). u.owner) same
  unmade n x z at open' (inr (inl gone)) = absurd (let never : ◌≡◌ {A = Owner} owners.Unowned (owners.Field w f) = sym (have.unfinished n x at open') ∙ gone.0.owner in cc)
  unmade n x z at open' (inr (inr into)) = absurd (true≢false (sym (finished_by p (type_of_field (field_at p f)) x into.0.may) ∙ open'))

  pub moves_into : StoresInto p h moved_heap m w
  moves_into = record {
    objects = λ n x at. (let z = moves_on p h w f bound v n x at in (z.0, z.1, z.2.class, z.2.finished, z.2.link));
    back = λ n z now. (let y = moved_back p h w f v bound n z now in (y.0, y.1));
    owner = λ n x z at now heavy. goes n x z at heavy (was n x z at now);
    unmade = λ n x z at now open'. unmade n x z at open' (was n x z at now);
  }
