-- The end of a frame, where a constructor that ends by an exception gives up what the fields of its object own.
use Rattle.std.proofs.Common.{◌≡◌, inl, inr, ℕ, ◌+◌, Bool, true, false, Option, Some, None, List, [], ◌++◌, refl, sym, ap, ◌∙◌, subst, true≢false, if◌then◌else◌}
use Rattle.rlc_base.specs.declared.place.Pos.{Pos}
use Rattle.program_model.specs.declared.kinds.ClassId.{ClassId}
use Rattle.program_model.specs.declared.program.Method.{Method}
use Rattle.program_model.specs.declared.program.Program.{Program}
use Rattle.ledger_obligations.specs.Bodies.{constructs}
use Rattle.ledger_state.specs.Contents.{HeapContents}
use Rattle.ledger_state.specs.Heaps.{object_at}
use Rattle.ledger_state.specs.Values.{number_of}
use Rattle.ledger_state.specs.declared.entry.Entry.{Entry}
use Rattle.ledger_state.specs.declared.entry.LeakWord.TheVariants as words
use Rattle.ledger_state.specs.declared.object.Object.{Object}
use Rattle.ledger_state.specs.declared.value.Value.{Value}
use Rattle.ledger_obligations.specs.Obligations.{end_holder, given_up, given_up_by_holder, is_frame, is_held_by, is_unmet}
use Rattle.ledger_steps.specs.Entries.{is_lost, leak_entries}
use Rattle.ledger_steps.specs.Ends.{constructor_ended, frame_end_leaks, frame_ended, frame_gone, result_moved}
use Rattle.heap_laws.proofs.EndLaws.{frame_back, holder_back}
use Rattle.heap_laws.proofs.LineLaws.{end_none, leaks_unchanged}
use Rattle.heap_laws.proofs.Leaks.{changes_leak_nothing, met_is_released}

not_true : (b : Bool) → (b ≡ true → ⊥) → b ≡ false
not_true true never = absurd (never refl)
not_true false never = refl

module _ (p : Program) (i : ℕ) (self : Value) (runs : Option Method) (v : Value) (e : Option ClassId) (h : HeapContents)
    (none : (n : ℕ) (x : Object) → object_at (result_moved p i runs v e h) n ≡ Some x → is_unmet x ≡ true → is_frame x.owner (i + 1) ≡ true → ⊥)
    (free : (n w : ℕ) (c : ClassId) (x : Object) → e ≡ Some c → constructs runs ≡ true → number_of self ≡ Some w → object_at (result_moved p i runs v e h) n ≡ Some x → is_unmet x ≡ true
    → is_held_by x.owner w ≡ true → ⊥) where
  abbrev ended : HeapContents
  ended = frame_ended p i runs v e h

  unmet_at_end : (n : ℕ) (y : Object) → object_at ended n ≡ Some y → is_unmet y ≡ true → object_at (result_moved p i runs v e h) n ≡ Some y
  unmet_at_end n y at unmet =
      let x = frame_back (i + 1) (result_moved p i runs v e h) n y at in
      elim x.2 [
        | inl same ↦ x.1 ∙ ap Some (sym same)
        | inr given ↦ absurd (none n x.0 x.1 (subst (λ (z : Object). is_unmet z ≡ true) given.1 unmet) given.0)
      ]

  -- what the object of the constructor holds is met
  held_is_met : (c : ClassId) (n w : ℕ) (x : Object) → e ≡ Some c → constructs runs ≡ true → number_of self ≡ Some w → object_at ended n ≡ Some x → is_held_by x.owner w ≡ true → is_unmet x ≡ false
  held_is_met c n w x is new number at held = not_true (is_unmet x) (λ unmet. free n w c x is new number (unmet_at_end n x at unmet) unmet held)

  by_self : (c : ClassId) → e ≡ Some c → constructs runs ≡ true → (w : Option ℕ) → number_of self ≡ w → (n : ℕ) (y : Object) → object_at (end_holder w ended) n ≡ Some y → is_unmet y ≡ true
      → object_at ended n ≡ Some y
  by_self c is new None number n y at unmet = at
  by_self c is new (Some w) number n y at unmet =
      let x = holder_back (Some w) ended n y at in
      elim x.2 [
        | inl same ↦ x.1 ∙ ap Some (sym same)
        | inr given ↦ absurd (true≢false (sym (subst (λ (z : Object). is_unmet z ≡ true) given.1 unmet) ∙ held_is_met c n w x.0 is new number x.1 given.0))
      ]

  at_end : (n : ℕ) (y : Object) → (x : Option ClassId) → e ≡ x → object_at (constructor_ended self runs x ended) n ≡ Some y → is_unmet y ≡ true → object_at ended n ≡ Some y
  at_end n y None is at unmet = at
  at_end n y (Some c) is at unmet = go (constructs runs) refl at
    where
      go : (b : Bool) → constructs runs ≡ b → object_at (if b then end_holder (number_of self) ended else ended) n ≡ Some y → object_at ended n ≡ Some y
      go true new at' = by_self c is new (number_of self) refl n y at' unmet
      go false other at' = at'

  pub nothing_unmet_goes : (n : ℕ) (y : Object) → object_at (frame_gone p i self runs v e h) n ≡ Some y → is_unmet y ≡ true → object_at (result_moved p i runs v e h) n ≡ Some y
  nothing_unmet_goes n y at unmet = unmet_at_end n y (at_end n y e refl at unmet) unmet

  holder_leaks : (pos : Pos) (c : ClassId) → e ≡ Some c → constructs runs ≡ true → (w : Option ℕ) → number_of self ≡ w → leak_entries p words.ConstructorThrow pos ended (end_holder w ended) ≡ []
  holder_leaks pos c is new None number = leaks_unchanged p words.ConstructorThrow pos ended
  holder_leaks pos c is new (Some w) number =
      changes_leak_nothing p words.ConstructorThrow pos (given_up_by_holder w) ended (λ n x at. lost n x at (is_held_by x.owner w) refl)
    where
      lost : (n : ℕ) (x : Object) → object_at ended n ≡ Some x → (b : Bool) → is_held_by x.owner w ≡ b → is_lost (let y : Object = if b then given_up x else x in y).owner ≡ true → is_lost x.owner ≡ true
      lost n x at true held lost' = absurd (true≢false (sym lost' ∙ met_is_released x (held_is_met c n w x is new number at held)))
      lost n x at false held lost' = lost'

  constructor_leaks : (pos : Pos) (x : Option ClassId) → e ≡ x → leak_entries p words.ConstructorThrow pos ended (constructor_ended self runs x ended) ≡ []
  constructor_leaks pos None is = leaks_unchanged p words.ConstructorThrow pos ended
  constructor_leaks pos (Some c) is = go (constructs runs) refl
    where
      go : (b : Bool) → constructs runs ≡ b → leak_entries p words.ConstructorThrow pos ended (if b then end_holder (number_of self) ended else ended) ≡ []
      go true new = holder_leaks pos c is new (number_of self) refl
      go false other = leaks_unchanged p words.ConstructorThrow pos ended

  pub contents_end_met : (pos : Pos) → frame_end_leaks p pos i self runs v e h ≡ []
  contents_end_met pos =
      ap (λ (es : List Entry). es ++ leak_entries p words.ConstructorThrow pos ended (frame_gone p i self runs v e h))
      (end_none p words.Exit pos (i + 1) (result_moved p i runs v e h) (λ n x at frame. not_true (is_unmet x) (λ unmet. none n x at unmet frame)))
      ∙ constructor_leaks pos e refl
