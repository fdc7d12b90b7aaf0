-- The owners of objects over a step within a frame: what a field gives up no frame owns then, and what moves to a field was the frame's.
use Rattle.std.proofs.Common.{◌≡◌, ◌⊎◌, inl, inr, ℕ, ◌+◌, true, false, true≢false, List, Option, Some, sym, ap, ◌∙◌, subst, arith, eqb-true}
use Rattle.program_model.specs.declared.kinds.ClassId.{ClassId}
use Rattle.program_model.specs.declared.kinds.FieldId.{FieldId}
use Rattle.program_model.specs.declared.program.Program.{Program}
use Rattle.program_model.specs.Lookups.{field_at}
use Rattle.ledger_obligations.specs.MustCallSets.{is_heavy_class}
use Rattle.ledger_state.specs.Contents.{HeapContents}
use Rattle.ledger_state.specs.Heaps.{object_at}
use Rattle.ledger_state.specs.declared.entry.Owner.{Owner}
use Rattle.ledger_state.specs.declared.entry.Owner.TheVariants as owners
use Rattle.ledger_state.specs.declared.object.Object.{Object}
use Rattle.ledger_state.specs.declared.value.Value.{Value}
use Rattle.ledger_obligations.specs.Obligations.{is_held_by, is_library_owner, type_of_field, with_owner}
use Rattle.ledger_steps.specs.InnerSteps.{thrown_heap}
use Rattle.value_laws.proofs.HeapLaws.{numbers_are_in_range}
use Rattle.value_laws.proofs.LibraryCallLaws.{exceptions_are_the_librarys}
use Rattle.value_laws.specs.Configuration.{Frame}
use Rattle.value_laws.specs.Stores.{IsMovedIn, IsStored}
use Rattle.value_laws.specs.PlaceFacts.{OwnersBelow, is_frame_from, may_owe}
use Rattle.covering_laws.proofs.Owners.{IsNewTo, OwnerGoes, OwnersGo, passed, stays}
use Rattle.covering_laws.proofs.OwnerSteps.{KeepsLibrary, free_below, gave_up, given_up_free, is_field_owner, movable_owes, never_moved, own_frame}

-- ---- exceptions of operations

-- what was there is as it was
pub thrown_same : (p : Program) (e : Option ClassId) (h : HeapContents) (o : ℕ) (x y : Object) → object_at h o ≡ Some x → object_at (thrown_heap p e h) o ≡ Some y → y ≡ x
thrown_same p e h o x y before now = elim (exceptions_are_the_librarys p e h o y now) [
  | inl old ↦ (let both : Some y ≡ Some x = sym old ∙ before in (let one : y ≡ x = cc in one))
  | inr new ↦ absurd (let number = new.0 in let range = numbers_are_in_range h o x before in let below = range.1 in omega (arith, number, below))
]

pub thrown_owners_go : (p : Program) (e : Option ClassId) (h : HeapContents) (into : Option ℕ) (below : List Frame) (j : ℕ) → OwnersGo p into below j h (thrown_heap p e h)
thrown_owners_go p e h into below j o x y before now done heavy = stays (ap (λ (z : Object). z.owner) (thrown_same p e h o x y before now))

pub thrown_below : (p : Program) (e : Option ClassId) (h : HeapContents) (i : ℕ) → OwnersBelow h i → OwnersBelow (thrown_heap p e h) i
thrown_below p e h i below o y now = elim (exceptions_are_the_librarys p e h o y now) [
  | inl old ↦ below o y old
  | inr new ↦ ap (is_frame_from (i + 1)) new.1
]

-- ---- stores into an owning field

module _ (p : Program) (h k : HeapContents) (w : ℕ) (f : FieldId) (v : Value) (stored : (o : ℕ) (y : Object) → object_at k o ≡ Some y → (x : Object) × (object_at h o ≡ Some x) × IsStored p h w f v o x y) where
  was : (o : ℕ) (x y : Object) → object_at h o ≡ Some x → object_at k o ≡ Some y → IsStored p h w f v o x y
  was o x y before now =
      let z = stored o y now in
      subst (λ (u : Object). IsStored p h w f v o u y) (let both : Some z.0 ≡ Some x = sym z.1 ∙ before in (let one : z.0 ≡ x = cc in one)) z.2

  pub store_keeps_library : KeepsLibrary h k
  store_keeps_library o x y before now done is = go (was o x y before now)
    where
      go : IsStored p h w f v o x y → is_library_owner y.owner ≡ true
      go (inl same) = ap (λ (z : Object). is_library_owner z.owner) same ∙ is
      go (inr (inl gone)) = absurd (true≢false (sym is ∙ ap is_library_owner gone.0.owner))
      go (inr (inr moved)) = absurd (never_moved p (type_of_field (field_at p f)) x moved.0.may is)

  -- where the frame owns what moves to the field, or the field does
  pub store_owners_go : (below : List Frame) → IsNewTo h below w → (j : ℕ)
      → ((o : ℕ) (x y : Object) → object_at h o ≡ Some x → object_at k o ≡ Some y → is_heavy_class p x.class ≡ true → may_owe x ≡ true → IsMovedIn p h f v o x → y ≡ with_owner (owners.Field w f) x
      → (x.owner ≡ owners.Frame j) ⊎ (x.owner ≡ owners.Field w f))
      → OwnersGo p (Some w) below j h k
  store_owners_go below none j mine o x y before now done heavy = go (was o x y before now)
    where
      go : IsStored p h w f v o x y → OwnerGoes h (Some w) below j x.owner y.owner
      go (inl same) = stays (ap (λ (z : Object). z.owner) same)
      go (inr (inl gone)) = gave_up h (Some w) below j x.owner y.owner (ap is_field_owner gone.0.owner) (given_up_free x y gone.1)
          (λ n held. subst (IsNewTo h below) (eqb-true w n (sym (ap (λ (u : Owner). is_held_by u n) gone.0.owner) ∙ held)) none)
      go (inr (inr moved)) = elim (mine o x y before now heavy (movable_owes p (type_of_field (field_at p f)) x moved.0.may) moved.0 moved.1) [
        | inl own ↦ passed (own_frame j x.owner own) into_field (λ n same. absurd (let never : owners.Field w f ≡ owners.Frame n = sym (ap (λ (z : Object). z.owner) moved.1) ∙ same in cc))
        | inr field ↦ stays (ap (λ (z : Object). z.owner) moved.1 ∙ sym field)
      ]
        where
          into_field : (n : ℕ) → is_held_by y.owner n ≡ true → Some w ≡ Some n
          into_field n held = ap Some (eqb-true w n (sym (ap (λ (z : Object). is_held_by z.owner n) moved.1) ∙ held))

  pub store_below : (i : ℕ) → OwnersBelow h i → OwnersBelow k i
  store_below i below o y now = let x = stored o y now in go x.0 (below o x.0 x.1) x.2
    where
      go : (x : Object) → is_frame_from (i + 1) x.owner ≡ false → IsStored p h w f v o x y → is_frame_from (i + 1) y.owner ≡ false
      go x was' (inl same) = ap (λ (z : Object). is_frame_from (i + 1) z.owner) same ∙ was'
      go x was' (inr (inl gone)) = free_below (i + 1) y.owner (given_up_free x y gone.1).0
      go x was' (inr (inr moved)) = ap (λ (z : Object). is_frame_from (i + 1) z.owner) moved.1
