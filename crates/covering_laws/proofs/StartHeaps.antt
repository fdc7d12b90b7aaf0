-- The heap as a call begins: it goes on, and the fields of the object that a `new` makes hold nothing.
use Rattle.std.specs.Prelude.{unwrap_or}
use Rattle.std.specs.List.{All, find}
use Rattle.std.proofs.Common.{◌≡◌, inl, inr, ℕ, Bool, true, false, Option, Some, None, List, [], ◌∷◌, nat_eq, refl, sym, ap, ◌∙◌, eqb-true, arith, if◌then◌else◌}
use Rattle.std.proofs.lemmas.List.Elements.{All-head, All-tail}
use Rattle.std.proofs.lemmas.Bool.{and_parts}
use Rattle.program_model.specs.declared.kinds.FieldId.{FieldId}
use Rattle.program_model.specs.declared.kinds.VType.{VType}
use Rattle.program_model.specs.declared.kinds.VType.TheVariants as types
use Rattle.program_model.specs.declared.program.Field.{Field}
use Rattle.program_model.specs.declared.program.Method.{Method}
use Rattle.program_model.specs.declared.program.Program.{Program}
use Rattle.program_model.specs.Lookups.{field_at}
use Rattle.control_actions.specs.declared.action.Action.{Action}
use Rattle.ledger_state.specs.Contents.{HeapContents}
use Rattle.ledger_state.specs.Fields.{default_in, field_value}
use Rattle.ledger_state.specs.Heaps.{is_field_of, next_number, object_at, value_stored}
use Rattle.ledger_state.specs.Values.{default_of, number_of}
use Rattle.ledger_state.specs.declared.locals.Locals.{Locals}
use Rattle.ledger_state.specs.declared.object.Object.{Object}
use Rattle.ledger_state.specs.declared.object.StoredField.{StoredField}
use Rattle.ledger_steps.specs.CallSteps.{began_heap}
use Rattle.value_laws.specs.Heaps.{HasEarlierLinks}
use Rattle.value_laws.proofs.HeapLaws.{numbers_are_in_range}
use Rattle.value_laws.specs.Ranges.{FieldsInRange, IsStoredInRange}
use Rattle.value_laws.proofs.Begun.{begun_from}
use Rattle.value_laws.proofs.Growth.{began_grows}
use Rattle.covering_laws.proofs.MadeObjects.{grown_fields}
use Rattle.covering_laws.proofs.StartOwners.{start_keeps_library}
use Rattle.covering_laws.proofs.Waiting.{Carries, KeepsFields, KeepsRoots, KeepsUnfinished, carried_roots, no_other}
use Rattle.covering_laws.proofs.LinkedExceptions.{LinkedWere}

module _ (p : Program) (l : Locals) (a : Action) (named : Option Method) (j : ℕ) (h : HeapContents) (links : HasEarlierLinks h) where
  abbrev begun : HeapContents
  begun = began_heap p l a named j h

  pub start_carries : Carries h begun
  start_carries n y at below = elim (begun_from p l a named j h links n y at) [
    | inl new ↦ absurd (let number = new.number in omega (arith, number, below))
    | inr old ↦ (old.before, old.at, old.goes_on.class, (λ done. (old.goes_on, λ library. start_keeps_library p l a named j h links n old.before y old.at at done library)))
  ]

  pub start_roots : KeepsRoots h begun
  start_roots = carried_roots h begun links (began_grows p l a named j h).count (λ n y at below. elim (begun_from p l a named j h links n y at) [
    | inl new ↦ absurd (let number = new.number in omega (arith, number, below))
    | inr old ↦ (old.before, old.at, old.goes_on.link)
  ])

  pub start_linked : LinkedWere h begun
  start_linked n y k at some = elim (begun_from p l a named j h links n y at) [
    | inl new ↦ absurd (let never : None ≡ Some k = sym new.link ∙ some in cc)
    | inr old ↦ (old.before, old.at, sym old.goes_on.link ∙ some, old.goes_on.class)
  ]

  pub start_unfinished : KeepsUnfinished h begun no_other
  start_unfinished o x y apart before now none = elim (begun_from p l a named j h links o y now) [
    | inl new ↦ new.unfinished
    | inr old ↦ old.goes_on.finished ∙ ap (λ (z : Object). z.finished) (let both : Some old.before ≡ Some x = sym old.at ∙ before in (let one : old.before ≡ x = cc in one)) ∙ none
  ]

  -- an object at the next number is that of a `new`, which is not finished
  pub new_unfinished : (y : Object) → object_at begun (next_number h) ≡ Some y → y.finished ≡ false
  new_unfinished y now = elim (begun_from p l a named j h links (next_number h) y now) [
    | inl new ↦ new.unfinished
    | inr old ↦ absurd (let range = numbers_are_in_range h (next_number h) old.before old.at in let below = range.1 in omega (arith, below))
  ]

  pub new_unlinked : (y : Object) → object_at begun (next_number h) ≡ Some y → y.link ≡ None
  new_unlinked y now = elim (begun_from p l a named j h links (next_number h) y now) [
    | inl new ↦ new.link
    | inr old ↦ absurd (let range = numbers_are_in_range h (next_number h) old.before old.at in let below = range.1 in omega (arith, below))
  ]

  pub start_keeps : KeepsFields p h begun
  start_keeps = grown_fields p h begun (began_grows p l a named j h)

-- ---- the fields of an object that is not there yet

none_found : (h : HeapContents) (fs : List StoredField) (f : FieldId) → All (IsStoredInRange h) fs → find (is_field_of (next_number h) f) fs ≡ None
none_found h [] f all = refl
none_found h (s ∷ fs) f all = go (is_field_of (next_number h) f s) refl (none_found h fs f (All-tail (IsStoredInRange h) s fs all))
  where
    holder : is_field_of (next_number h) f s ≡ true → ⊥
    holder is =
        let range = (All-head (IsStoredInRange h) s fs all).0.1 in
        let same = eqb-true s.holder (next_number h) (and_parts (nat_eq s.holder (next_number h)) (nat_eq s.field.0 f.0) is).0 in
        omega (arith, range, same)

    go : (b : Bool) → is_field_of (next_number h) f s ≡ b → find (is_field_of (next_number h) f) fs ≡ None → (if b then Some s else find (is_field_of (next_number h) f) fs) ≡ None
    go true is rest = absurd (holder is)
    go false is rest = rest

no_default : (x : Option Field) → number_of (default_in x) ≡ None
no_default None = refl
no_default (Some x) = go x.vtype
  where
    go : (t : VType) → number_of (default_of t) ≡ None
    go (types.Primitive k) = refl
    go types.Str = refl
    go (types.Arr e) = refl
    go (types.Obj c) = refl
    go types.NullType = refl

pub new_holds_nothing : (p : Program) (h : HeapContents) (f : FieldId) → FieldsInRange h → number_of (field_value p h (next_number h) f) ≡ None
new_holds_nothing p h f fields =
    ap (λ (x : Option StoredField). number_of (unwrap_or (value_stored x) (default_in (field_at p f)))) (none_found h h.fields f fields) ∙ no_default (field_at p f)
