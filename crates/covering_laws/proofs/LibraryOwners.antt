-- The owners of objects over a call of the library: what an owning parameter takes is the library's, and all others stay.
use Rattle.std.proofs.Common.{◌≡◌, ◌⊎◌, inl, inr, ℕ, ◌+◌, Bool, true, false, true≢false, Option, None, Some, refl, sym, ap, ◌∙◌, arith, if◌then◌else◌, List}
use Rattle.program_model.specs.declared.program.Method.{Method}
use Rattle.program_model.specs.declared.program.Program.{Program}
use Rattle.ledger_obligations.specs.MustCallSets.{is_heavy_class}
use Rattle.control_actions.specs.declared.action.Action.{Action}
use Rattle.control_actions.specs.declared.action.Action.TheVariants as actions
use Rattle.stub_conduct.specs.declared.choice.Conduct.{Conduct}
use Rattle.stub_conduct.specs.declared.choice.Conduct.TheVariants as conducts
use Rattle.ledger_state.specs.Contents.{HeapContents}
use Rattle.ledger_state.specs.Heaps.{object_at}
use Rattle.ledger_state.specs.declared.entry.Owner.{Owner}
use Rattle.ledger_state.specs.declared.entry.Owner.TheVariants as owners
use Rattle.ledger_state.specs.declared.locals.Locals.{Locals}
use Rattle.ledger_state.specs.declared.object.Object.{Object}
use Rattle.ledger_obligations.specs.Obligations.{is_held_by, is_library_owner}
use Rattle.ledger_steps.specs.LedgerCallsCalls.{alias_position, operand_of, params_in, position_object, position_of, reset_position}
use Rattle.ledger_steps.specs.Conducts.{owning_in, result_owner}
use Rattle.ledger_steps.specs.CallSteps.{library_heap}
use Rattle.value_laws.specs.Heaps.{IsGiven, IsOlder}
use Rattle.value_laws.proofs.HeapLaws.{moved_arguments_are_given, numbers_are_in_range}
use Rattle.value_laws.proofs.LibraryCallLaws.{given_arguments_stay_given, library_aliases_are_older_or_made, library_objects_are_older_or_made}
use Rattle.value_laws.specs.LibraryCalls.{IsAliasMadeAs, IsAliasOf, IsMadeAs}
use Rattle.value_laws.proofs.Traces.{IsTraced, trace}
use Rattle.value_laws.specs.PlaceFacts.{OwnersBelow, is_frame_from, may_owe}
use Rattle.covering_laws.proofs.Owners.{OwnersGo, passed, stays}
use Rattle.value_laws.specs.Configuration.{Frame}
use Rattle.covering_laws.proofs.OwnerSteps.{KeepsLibrary, below_next, movable_owes, own_frame}

module _ (p : Program) (l : Locals) (a : Action) (named m : Option Method) (d : Conduct) (i : ℕ) (h : HeapContents) (none : reset_position named ≡ None) where
  abbrev after : HeapContents
  after = library_heap p l a named m d i h

  abbrev IsGivenAway : ℕ → Object → Type 0
  IsGivenAway n x = IsGiven p (operand_of l a) 1 (params_in named) h n x

  -- the owner stays, or the call gives the object to the library
  pub library_owner : (n : ℕ) (x y : Object) → object_at h n ≡ Some x → object_at after n ≡ Some y → (y.owner ≡ x.owner) ⊎ ((y.owner ≡ owners.Library) × IsGivenAway n x)
  library_owner n x y before now = go (trace p l a named m d i h n y (alias_position m) none refl now)
    where
      go : IsTraced p l a named m d i h n y (alias_position m) → (y.owner ≡ x.owner) ⊎ ((y.owner ≡ owners.Library) × IsGivenAway n x)
      go (inr new) = absurd (let number = new.0 in let range = numbers_are_in_range h n x before in let below = range.1 in omega (arith, number, below))
      go (inl (z, moved, same)) = elim (moved_arguments_are_given p owners.Library (operand_of l a) 1 (params_in named) h n x z before moved) [
        | inl kept ↦ inl (sym (ap (λ (u : Object). u.owner) same) ∙ kept)
        | inr given ↦ inr (given_arguments_stay_given p l a named m d i given.index given.param h n x y none given.at given.owning given.root before given.may now, given)
      ]

  pub library_keeps_library : KeepsLibrary h after
  library_keeps_library n x y before now done is = elim (library_owner n x y before now) [
    | inl same ↦ ap is_library_owner same ∙ is
    | inr given ↦ ap is_library_owner given.0
  ]

  -- where the frame owned what it gives
  pub library_owners_go : (into : Option ℕ) (below : List Frame) (j : ℕ)
      → ((n : ℕ) (x : Object) → object_at h n ≡ Some x → is_heavy_class p x.class ≡ true → may_owe x ≡ true → IsGivenAway n x → x.owner ≡ owners.Frame j) → OwnersGo p into below j h after
  library_owners_go into below j mine n x y before now done heavy = elim (library_owner n x y before now) [
    | inl same ↦ stays same
    | inr given ↦ passed (own_frame j x.owner (mine n x before heavy (movable_owes p given.1.param.vtype x given.1.may) given.1))
        (λ w held. absurd (true≢false (sym held ∙ ap (λ (o : Owner). is_held_by o w) given.0))) (λ k same. absurd (let never : owners.Library ≡ owners.Frame k = sym given.0 ∙ same in cc))
  ]

  -- ---- what the call makes

  made_below : (y : Object) (c : Conduct) → IsMadeAs p a m i c y → is_frame_from (i + 1) y.owner ≡ false
  made_below y (conducts.Throws e) made = ap (is_frame_from (i + 1)) made.0
  made_below y (conducts.Fresh e) made = ap (is_frame_from (i + 1)) made.2 ∙ by_action a
    where
      either : (b : Bool) → is_frame_from (i + 1) (if b then owners.Frame i else owners.Library) ≡ false
      either true = below_next i
      either false = refl

      by_action : (b : Action) → is_frame_from (i + 1) (result_owner b m i) ≡ false
      by_action actions.Skip = either (owning_in m)
      by_action (actions.New k d' c') = below_next i
      by_action (actions.Plain q x) = refl
      by_action b = either (owning_in m)
  made_below y conducts.Null made = absurd made
  made_below y (conducts.Existing k) made = absurd made
  made_below y conducts.Argument made = absurd made
  made_below y (conducts.Value z) made = absurd made
  made_below y conducts.Nothing made = absurd made

  alias_below : (y : Object) (k : ℕ) (c : Conduct) → IsAliasMadeAs l a k c y → is_frame_from (i + 1) y.owner ≡ false
  alias_below y k (conducts.Throws e) made = ap (is_frame_from (i + 1)) made.0
  alias_below y k (conducts.Fresh e) made = of_target (position_object (position_of None l a) k) made.2
    where
      of_target : (t : Option ℕ) → IsAliasOf t y → is_frame_from (i + 1) y.owner ≡ false
      of_target None is = ap (is_frame_from (i + 1)) is.1
      of_target (Some w) is = ap (is_frame_from (i + 1)) is.0
  alias_below y k conducts.Null made = absurd made
  alias_below y k (conducts.Existing j) made = absurd made
  alias_below y k conducts.Argument made = absurd made
  alias_below y k (conducts.Value z) made = absurd made
  alias_below y k conducts.Nothing made = absurd made

  older_below : (n : ℕ) (y : Object) → OwnersBelow h i → IsOlder h n y owners.Library → is_frame_from (i + 1) y.owner ≡ false
  older_below n y below old = elim old.owner [
    | inl same ↦ ap (is_frame_from (i + 1)) same ∙ below n old.before old.at
    | inr given ↦ ap (is_frame_from (i + 1)) given
  ]

  -- no frame above the caller owns anything
  pub library_below : OwnersBelow h i → OwnersBelow after i
  library_below below n y now = by (alias_position m) refl
    where
      by : (k : Option ℕ) → alias_position m ≡ k → is_frame_from (i + 1) y.owner ≡ false
      by None plain = elim (library_objects_are_older_or_made p l a named m d i h n y none plain now) [ inl old ↦ older_below n y below old | inr new ↦ made_below y d new.1 ]
      by (Some k) alias = elim (library_aliases_are_older_or_made p l a named m d i h n k y none alias now) [ inl old ↦ older_below n y below old | inr new ↦ alias_below y k d new.1 ]
