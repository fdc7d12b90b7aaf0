-- The object that a call of the library makes, as the call leaves it.
use Rattle.std.specs.Prelude.{unwrap_or, if◌then◌else◌}
use Rattle.std.specs.List.{find}
use Rattle.std.proofs.Common.{◌≡◌, ◌⊎◌, inl, inr, ℕ, Bool, true, false, Option, Some, None, List, [], eq-eqb, refl, sym, ap, ◌∙◌, subst, arith}
use Rattle.program_model.specs.declared.kinds.ClassId.{ClassId}
use Rattle.program_model.specs.declared.program.Method.{Method}
use Rattle.program_model.specs.declared.program.Program.{Program}
use Rattle.control_actions.specs.declared.action.Action.{Action}
use Rattle.stub_conduct.specs.declared.choice.Conduct.{Conduct}
use Rattle.stub_conduct.specs.declared.choice.Conduct.TheVariants as conducts
use Rattle.ledger_state.specs.Contents.{HeapContents}
use Rattle.ledger_state.specs.Fields.{default_in}
use Rattle.ledger_state.specs.Heaps.{append, change_one, is_field_of, next_number, object_at, only_at, unfinished, value_stored}
use Rattle.ledger_state.specs.declared.entry.Owner.TheVariants as owners
use Rattle.ledger_state.specs.declared.locals.Locals.{Locals}
use Rattle.ledger_state.specs.declared.object.Object.{Object}
use Rattle.ledger_state.specs.declared.object.StoredField.{StoredField}
use Rattle.ledger_obligations.specs.Obligations.{alias_born, all_notes, finished, first_set, noted_object, reset_in}
use Rattle.ledger_steps.specs.LedgerCallsCalls.{alias_position, alias_target, arguments_moved, is_alias, operand_of, params_in, position_of, reset_position}
use Rattle.ledger_steps.specs.Conducts.{first_in, fresh_born, library_notes, result_owner}
use Rattle.ledger_steps.specs.CallSteps.{library_called, library_heap, library_made, library_reset}
use Rattle.value_laws.specs.Heaps.{HasEarlierLinks, IsOlder}
use Rattle.value_laws.proofs.EndLaws.{changed_back}
use Rattle.value_laws.proofs.HeapLaws.{appended_object_at-object, evolving_heaps-links, moves_make_nothing, numbers_are_in_range, notes_add_names-object, nothing_is_changed}
use Rattle.value_laws.proofs.LibraryCallLaws.{library_aliases_are_older_or_made, library_objects_are_older_or_made, library_objects_go_on}
use Rattle.program_model.specs.Lookups.{field_at}
use Rattle.value_laws.proofs.Growth.{Grows, library_grows}
use Rattle.covering_laws.proofs.LibraryOwners.{library_keeps_library}
use Rattle.covering_laws.proofs.Waiting.{Carries, KeepsFields, KeepsRoots, KeepsUnfinished, linked_roots, no_other}

-- the fields of a heap that grows hold what they held
pub grown_fields : (p : Program) (h k : HeapContents) → Grows h k → KeepsFields p h k
grown_fields p h k grows w f own = ap (λ (fs : List StoredField). unwrap_or (value_stored (find (is_field_of w f) fs)) (default_in (field_at p f))) grows.fields

pub one_here : (k : ℕ) (change : Object → Object) (h : HeapContents) (y : Object) → object_at (change_one k change h) k ≡ Some y → (x : Object) × (object_at h k ≡ Some x) × (change x ≡ y)
one_here k change h y at =
    let x = changed_back (only_at k change) h k y at in
    (x.0, x.1, sym (ap (λ (b : Bool). if b then change x.0 else x.0) (eq-eqb k k refl)) ∙ x.2)

module _ (p : Program) (l : Locals) (a : Action) (named m : Option Method) (i : ℕ) (h : HeapContents) (no_reset : reset_position named ≡ None) where
  abbrev moved : HeapContents
  moved = arguments_moved p owners.Library l a named h

  count : next_number moved ≡ next_number h
  count = moves_make_nothing p owners.Library (operand_of l a) 1 (params_in named) h

  reset_is : (d : Conduct) → library_reset p l a named m d h ≡ library_called p l a named m d h
  reset_is d = rw no_reset (nothing_is_changed (reset_in p (library_called p l a named m d h) []) (library_called p l a named m d h) (λ k x at. refl))

  -- an object at the next number, before it is finished, is of the class that is made
  class_made : (d : Conduct) (e : ClassId) (x : Object) → library_made p l a named d h ≡ append moved e → object_at (library_reset p l a named m d h) (next_number h) ≡ Some x → x.class ≡ e
  class_made d e x made at =
      let notes = library_notes p (library_made p l a named d h) l a named m (next_number h) d in
      let all = all_notes p (library_made p l a named d h) notes in
      let z = changed_back (noted_object all) (library_made p l a named d h) (next_number h) x (subst (λ (g : HeapContents). object_at g (next_number h) ≡ Some x) (reset_is d) at) in
      let there : object_at (append moved e) (next_number h) ≡ Some z.0 = subst (λ (g : HeapContents). object_at g (next_number h) ≡ Some z.0) made z.1 in
      let new : object_at (append moved e) (next_number h) ≡ Some (unfinished e) =
      appended_object_at-object moved e (next_number h) ∙ ap (λ (b : Bool). if b then Some (unfinished e) else object_at moved (next_number h)) (eq-eqb (next_number h) (next_number moved) (sym count)) in
      let same : z.0 ≡ unfinished e = (let both : Some z.0 ≡ Some (unfinished e) = sym there ∙ new in (let one : z.0 ≡ unfinished e = cc in one)) in
      ap (λ (u : Object). u.class) (sym z.2) ∙ (notes_add_names-object all (next_number h) z.0).class ∙ ap (λ (u : Object). u.class) same

  -- an exception is of its class
  pub thrown_class : (e : ClassId) (y : Object) → object_at (library_heap p l a named m (conducts.Throws e) i h) (next_number h) ≡ Some y → y.class ≡ e
  thrown_class e y at =
      let x = one_here (next_number h) (finished (first_set p e None) owners.Library) (library_reset p l a named m (conducts.Throws e) h) y at in
      ap (λ (u : Object). u.class) (sym x.2) ∙ class_made (conducts.Throws e) e x.0 refl x.1

  -- a result is finished
  pub fresh_finished : (e : ClassId) (y : Object) → object_at (library_heap p l a named m (conducts.Fresh e) i h) (next_number h) ≡ Some y → y.finished ≡ true
  fresh_finished e y at =
      let x = one_here (next_number h) (fresh_born p e m a i (position_of None l a)) (library_reset p l a named m (conducts.Fresh e) h) y at in
      ap (λ (u : Object). u.finished) (sym x.2) ∙ by (is_alias m) (alias_target (position_of None l a) m) x.0
    where
      by : (b : Bool) (k : Option ℕ) (z : Object) → (if b then alias_born p true k z else finished (first_set p e (first_in m)) (result_owner a m i) z).finished ≡ true
      by true None z = refl
      by true (Some k) z = refl
      by false k z = refl

  module _ (links : HasEarlierLinks h) (d : Conduct) where
    abbrev after : HeapContents
    after = library_heap p l a named m d i h

    -- each object was there, or the call made it
    pub older_or_new : (n : ℕ) (y : Object) → object_at after n ≡ Some y → IsOlder h n y owners.Library ⊎ (n ≡ next_number h)
    older_or_new n y at = by (alias_position m) refl
      where
        by : (k : Option ℕ) → alias_position m ≡ k → IsOlder h n y owners.Library ⊎ (n ≡ next_number h)
        by None none = elim (library_objects_are_older_or_made p l a named m d i h n y no_reset none at) [ inl old ↦ inl old | inr new ↦ inr new.0 ]
        by (Some k) some = elim (library_aliases_are_older_or_made p l a named m d i h n k y no_reset some at) [ inl old ↦ inl old | inr new ↦ inr new.0 ]

    pub library_roots : KeepsRoots h after
    library_roots = linked_roots h after links (evolving_heaps-links h after (library_objects_go_on p l a named m d i h no_reset))

    pub library_carries : Carries h after
    library_carries n y at below = elim (older_or_new n y at) [
      | inl old ↦ (old.before, old.at, old.goes_on.class, (λ done. (old.goes_on, λ library. library_keeps_library p l a named m d i h no_reset n old.before y old.at at done library)))
      | inr new ↦ absurd (omega (arith, new, below))
    ]

    pub library_unfinished : KeepsUnfinished h after no_other
    library_unfinished o x y apart before now unready = elim (older_or_new o y now) [
      | inl old ↦ old.goes_on.finished ∙ ap (λ (z : Object). z.finished) (let both : Some old.before ≡ Some x = sym old.at ∙ before in (let one : old.before ≡ x = cc in one)) ∙ unready
      | inr new ↦ absurd (let range = numbers_are_in_range h o x before in let below = range.1 in omega (arith, new, below))
    ]

    pub library_keeps : KeepsFields p h after
    library_keeps = grown_fields p h after (library_grows p l a named m d i h)
