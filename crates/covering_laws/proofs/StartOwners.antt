-- The owners of objects as a call of a method of the program begins: what an owning parameter takes is the callee's, and all others stay.
use Rattle.std.proofs.Common.{◌≡◌, ◌⊎◌, inl, inr, ℕ, ◌+◌, ◌≤◌, Bool, true, false, true≢false, Option, None, Some, nat_eq, refl, sym, ap, ◌∙◌, subst, arith, if◌then◌else◌, List}
use Rattle.program_model.specs.declared.program.Method.{Method}
use Rattle.program_model.specs.declared.program.Program.{Program}
use Rattle.ledger_obligations.specs.MustCallSets.{is_heavy_class}
use Rattle.control_actions.specs.declared.action.Action.{Action}
use Rattle.control_actions.specs.declared.action.Action.TheVariants as actions
use Rattle.ledger_state.specs.Contents.{HeapContents}
use Rattle.ledger_state.specs.Heaps.{next_number, object_at, unfinished}
use Rattle.ledger_state.specs.declared.entry.Owner.{Owner}
use Rattle.ledger_state.specs.declared.entry.Owner.TheVariants as owners
use Rattle.ledger_state.specs.declared.locals.Locals.{Locals}
use Rattle.ledger_state.specs.declared.object.Object.{Object}
use Rattle.ledger_obligations.specs.Obligations.{is_held_by, is_library_owner}
use Rattle.ledger_steps.specs.LedgerCallsCalls.{operand_of, params_in}
use Rattle.ledger_steps.specs.CallSteps.{began_heap, object_of_new}
use Rattle.value_laws.specs.Heaps.{HasEarlierLinks, IsGiven}
use Rattle.value_laws.proofs.Begun.{begun_from}
use Rattle.value_laws.proofs.HeapLaws.{appended_object_at-object, moved_arguments_are_older-older, numbers_are_in_range}
use Rattle.value_laws.specs.PlaceFacts.{OwnersBelow, is_frame_from, may_owe}
use Rattle.covering_laws.proofs.Owners.{OwnersGo, StaysApart, WaysGo, passed, stays, whole_still}
use Rattle.value_laws.specs.Renewing.{IsHeldByLent, IsLentFrom}
use Rattle.value_laws.specs.Configuration.{Frame}
use Rattle.covering_laws.proofs.OwnerSteps.{KeepsLibrary, below_next, movable_owes, never_moved, own_frame, still_below}

module _ (p : Program) (l : Locals) (a : Action) (named : Option Method) (j : ℕ) (h : HeapContents) (links : HasEarlierLinks h) where
  abbrev after : HeapContents
  after = began_heap p l a named j h

  abbrev IsGivenAway : ℕ → Object → Type 0
  IsGivenAway n x = IsGiven p (operand_of l a) 1 (params_in named) h n x

  -- the owner stays, or the call gives the object to the frame that begins, at position `j`
  pub start_owner : (n : ℕ) (x y : Object) → object_at h n ≡ Some x → object_at after n ≡ Some y → (y.owner ≡ x.owner) ⊎ ((y.owner ≡ owners.Frame j) × IsGivenAway n x)
  start_owner n x y before now = elim (begun_from p l a named j h links n y now) [
    | inl new ↦ absurd (let number = new.number in let range = numbers_are_in_range h n x before in let below = range.1 in omega (arith, number, below))
    | inr old ↦ subst (λ (u : Object). (y.owner ≡ u.owner) ⊎ ((y.owner ≡ owners.Frame j) × IsGivenAway n u)) (let both : Some old.before ≡ Some x = sym old.at ∙ before in (let one : old.before ≡ x = cc in one)) old.owner
  ]

  pub start_keeps_library : KeepsLibrary h after
  start_keeps_library n x y before now done is = elim (start_owner n x y before now) [
    | inl same ↦ ap is_library_owner same ∙ is
    | inr given ↦ absurd (never_moved p given.1.param.vtype x given.1.may is)
  ]

  -- where the caller, at position `i`, owned what it gives
  pub start_owners_go : (into : Option ℕ) (below : List Frame) (i : ℕ) → i ≤ j
      → ((n : ℕ) (x : Object) → object_at h n ≡ Some x → is_heavy_class p x.class ≡ true → may_owe x ≡ true → IsGivenAway n x → x.owner ≡ owners.Frame i) → OwnersGo p into below i h after
  start_owners_go into below i above mine n x y before now done heavy = elim (start_owner n x y before now) [
    | inl same ↦ stays same
    | inr given ↦ passed (own_frame i x.owner (mine n x before heavy (movable_owes p given.1.param.vtype x given.1.may) given.1))
        (λ w held. absurd (true≢false (sym held ∙ ap (λ (o : Owner). is_held_by o w) given.0)))
        (λ k same. let both : owners.Frame j ≡ owners.Frame k = sym given.0 ∙ same in let one : j ≡ k = cc in omega (arith, above, one))
  ]

  -- ---- the object of a `new`

  -- nobody owns what the call makes
  made_last : (b : Action) (k : Option Method) (n : ℕ) (x : Object) → object_at (object_of_new b k h) n ≡ Some x → (x.owner ≡ owners.Unowned) ⊎ (object_at h n ≡ Some x)
  made_last actions.Skip k n x at = inr at
  made_last (actions.New m d c) None n x at = inr at
  made_last (actions.New m d c) (Some k) n x at = appended (nat_eq n (next_number h)) refl (sym (appended_object_at-object h k.class n) ∙ at)
    where
      appended : (b : Bool) → nat_eq n (next_number h) ≡ b → (if b then Some (unfinished k.class) else object_at h n) ≡ Some x → (x.owner ≡ owners.Unowned) ⊎ (object_at h n ≡ Some x)
      appended true here same = inl (sym (ap (λ (z : Object). z.owner) (let one : unfinished k.class ≡ x = cc in one)))
      appended false here same = inr same
  made_last b k n x at = inr at

  -- no frame above the callee, which begins, owns anything
  pub start_below : OwnersBelow h j → OwnersBelow after j
  start_below below n y now =
      let old = moved_arguments_are_older-older p (owners.Frame j) (operand_of l a) 1 (params_in named) (object_of_new a named h) n y now in
      elim old.owner [
        | inl same ↦ ap (is_frame_from (j + 1)) same ∙ elim (made_last a named n old.before old.at) [ inl none ↦ ap (is_frame_from (j + 1)) none | inr was ↦ below n old.before was ]
        | inr moved ↦ ap (is_frame_from (j + 1)) moved ∙ below_next j
      ]

-- the frames below a position are those below the next one
pub below_further : (h : HeapContents) (i : ℕ) → OwnersBelow h i → OwnersBelow h (i + 1)
below_further h i below n x at = still_below (i + 1) x.owner (below n x at)

-- what a field of `this` owns, which is lent to a frame, is so after a step that keeps its owner
pub held_by_lent : (p : Program) (h k : HeapContents) (frs : List Frame) (fr : Frame) {into : Option ℕ} {below : List Frame} {j : ℕ} → StaysApart p h k frs fr → WaysGo p into below j h k
    → ((o : ℕ) (x y : Object) → object_at h o ≡ Some x → object_at k o ≡ Some y → x.finished ≡ false → y.finished ≡ false) → (a b : Owner) → b ≡ a
    → IsHeldByLent p h (IsLentFrom p h frs) fr a → IsHeldByLent p k (IsLentFrom p k frs) fr b
held_by_lent p h k frs fr others ways unfinished a b same held =
    let y = ways.objects held.holder held.object held.at in
    let was : y.0.finished ≡ true → held.object.finished ≡ true = λ done. made held.object.finished refl (λ open'. true≢false (sym done ∙ unfinished held.holder held.object y.0 held.at y.1 open')) in
    record {
      holder = held.holder;
      field = held.field;
      owns = same ∙ held.owns;
      runs = held.runs;
      method = held.method;
      object = y.0;
      at = y.1;
      whole = whole_still p held.object y.0 y.2 (λ done. (y.3 done).0) held.whole;
      unlinked = λ done. (y.3 (was done)).1 ∙ held.unlinked (was done);
      heavy = ap (is_heavy_class p) y.2 ∙ held.heavy;
      lends = (others.keeps held.holder held.object y.0 held.at y.1 (held.whole, held.heavy) held.lends).1;
    }
  where
    made : (b : Bool) → held.object.finished ≡ b → (held.object.finished ≡ false → ⊥) → held.object.finished ≡ true
    made true is never = is
    made false is never = absurd (never is)
