-- A call of a method of the program begins a frame: what its places hold is in facts of the body's entry.
use Rattle.std.specs.Prelude.{◌-◌, ◌<◌, ◌||◌, ◌&&◌, not, replicate}
use Rattle.std.specs.FinSet as set
use Rattle.std.proofs.Common.{◌≡◌, ◌⊎◌, inl, inr, ℕ, zero, suc, ◌+◌, ◌≤◌, Bool, true, false, not, Option, Some, None, List, [], ◌∷◌, ◌++◌, length, IsSomeAnd, slice_get, refl, sym, ap, ◌∙◌, subst, true≢false, eq-eqb, arith}
use Rattle.std.proofs.lemmas.Bool.{and_from, or_left, or_right}
use Rattle.std.proofs.lemmas.List.FromFn.{length-map-range_with_len}
use Rattle.std.proofs.lemmas.Option.{slice_get_within}
use Rattle.rlc_base.proofs.SetLaws.{empty_within, within_self}
use Rattle.program_model.specs.declared.kinds.BodyId.{BodyId}
use Rattle.program_model.specs.declared.kinds.ClassId.{ClassId}
use Rattle.program_model.specs.declared.kinds.FieldId.{FieldId}
use Rattle.program_model.specs.declared.kinds.MethodId.{MethodId}
use Rattle.program_model.specs.declared.kinds.MethodKind.TheVariants as methods
use Rattle.program_model.specs.declared.kinds.VType.{VType}
use Rattle.program_model.specs.declared.kinds.VType.TheVariants as types
use Rattle.program_model.specs.declared.program.Field.{Field}
use Rattle.program_model.specs.declared.program.Method.{Method}
use Rattle.program_model.specs.declared.program.ParamSig.{ParamSig}
use Rattle.program_model.specs.declared.program.Program.{Program}
use Rattle.program_model.specs.declared.tree.Var.{Var}
use Rattle.program_model.specs.Lookups.{method_at}
use Rattle.program_model.specs.Overrides.{is_type}
use Rattle.program_model.specs.SuperTests.{is_class}
use Rattle.program_model.specs.Validity.{HasParameters, IsBodyOf, is_class_type}
use Rattle.ledger_obligations.specs.OverrideCases.{differ}
use Rattle.ledger_obligations.specs.Bodies.{constructs, is_class_of, is_constructor_kind, reset_in}
use Rattle.ledger_obligations.specs.MustCallSets.{is_empty, is_heavy_class, must_of_optional, no_names}
use Rattle.ownership_rules.specs.Signatures.{type_of_field}
use Rattle.java_control.specs.Calls.{called_method, is_reset_of_this}
use Rattle.java_control.specs.Control.{Step}
use Rattle.java_control.specs.Owned.{is_owning_field, field_number}
use Rattle.control_actions.specs.declared.action.Action.{Action}
use Rattle.control_actions.specs.declared.action.Action.TheVariants as actions
use Rattle.java_control.specs.PlaceNumbers.{IsSmall}
use Rattle.control_actions.specs.declared.fact.Fact.{Fact}
use Rattle.control_actions.specs.declared.fact.Mode.{Mode}
use Rattle.control_actions.specs.declared.fact.Mode.TheVariants as modes
use Rattle.control_actions.specs.declared.fact.Origin.{Origin}
use Rattle.control_actions.specs.declared.fact.OriginKind.TheVariants as kinds
use Rattle.control_actions.specs.declared.place.Place.{Place}
use Rattle.control_actions.specs.declared.place.Place.TheVariants as places
use Rattle.ownership_rules.specs.Callees.{callee, callee_in}
use Rattle.ownership_rules.specs.Facts.{has, has_temp, is_held, is_own}
use Rattle.ownership_rules.specs.Births.{births_at_entry, fact_at, has_this, origin_of, parameter_mode, this_mode}
use Rattle.value_laws.specs.Paths.{move_of, Reach, relation_of}
use Rattle.value_laws.specs.Accept.{Accept}
use Rattle.ledger_state.specs.Contents.{HeapContents}
use Rattle.ledger_state.specs.Fields.{field_of, field_value}
use Rattle.ledger_state.specs.Heaps.{next_number, object_at, root_of, root}
use Rattle.ledger_state.specs.Locals.{temp_value, variable_value}
use Rattle.ledger_state.specs.Values.{value_or_nothing}
use Rattle.ledger_state.specs.declared.array.ArrayObject.{ArrayObject}
use Rattle.ledger_state.specs.declared.entry.Owner.TheVariants as owners
use Rattle.ledger_state.specs.declared.locals.Locals.{Locals}
use Rattle.ledger_obligations.specs.Obligations.{may_move}
use Rattle.ledger_state.specs.declared.object.Object.{Object}
use Rattle.ledger_state.specs.declared.value.Value.{Value}
use Rattle.ledger_state.specs.declared.value.Value.TheVariants as values
use Rattle.value_laws.specs.Places.{field_place_value, owning_field_beside, place_value}
use Rattle.ledger_steps.specs.LedgerCallsCalls.{argument_values, begun, body_of, operand_of, params_in, running, variable_count}
use Rattle.value_laws.specs.Configuration.{Frame}
use Rattle.value_laws.specs.Choosing.{frame_steps, body_id}
use Rattle.ledger_steps.specs.CallSteps.{began_heap, self_begun}
use Rattle.value_laws.specs.Heaps.{HasEarlierLinks, IsGiven}
use Rattle.value_laws.proofs.Begun.{begun_given}
use Rattle.value_laws.proofs.FieldPlaces.{IsBeside, place_of_beside}
use Rattle.value_laws.specs.Naming.{IsOfItsKind}
use Rattle.value_laws.proofs.NamedReached.{names_what_is_there}
use Rattle.value_laws.specs.Outcomes.{IsCallRow}
use Rattle.value_laws.specs.Agreement.{AllStand, Stands}
use Rattle.value_laws.specs.PlainForms.{HasPlainForms, IsPlainAction, is_lent_parameter}
use Rattle.value_laws.specs.Nexts.{IsStartMove}
use Rattle.value_laws.specs.Operands as operand_types
use Rattle.value_laws.specs.Operands.{NoObject}
use Rattle.value_laws.proofs.Entries.{HasBegun, argument_at, has_begun, same_count}
use Rattle.value_laws.proofs.Ready.{plain_step, step_there}
use Rattle.value_laws.specs.Types.{KeepsTypes, StoredHoldNone, is_text}
use Rattle.value_laws.proofs.ValueTypeFields.{field_is_none}
use Rattle.value_laws.proofs.ValueTypeLaws.{argument_is_no_object}
use Rattle.value_laws.specs.PlaceFacts.{AreCovered, AreWaiting, Covers, IsCovered, IsKeyed, IsOld, IsTrueOf, IsUnowned, OwesOrHolds, OwnersBelow, asked_by, asked_of, claims, gives_none, is_frame_from, is_given, is_heavy_in, is_lent, owned, renews_none, unowned}
use Rattle.covering_laws.proofs.HeavyFields.{asked_here, claims_owned, covered_at}
use Rattle.value_laws.proofs.KeptFacts.{parameter_unheld}
use Rattle.value_laws.specs.Ranges.{FieldsInRange, IsInRange, IsNumber, LocalsInRange}
use Rattle.value_laws.proofs.RangeValues.{field_in_range, operand_in_range}
use Rattle.covering_laws.specs.Running.{HasPlainRuns}
use Rattle.covering_laws.proofs.BegunFrames.{entered_covers, lent_or_none, lent_unowned, not_and, not_held, not_own, parameter_born}
use Rattle.covering_laws.proofs.EntryBirths.{alike_parameter, argument_or_nothing, of_parameter, of_this, same_mark, lent_parameter, lent_this, no_parameter, this_unowned, this_born, parameter_at, class_type_is, element_there}
use Rattle.covering_laws.proofs.GivenArguments.{given_is_true, given_owner, operand_may_move, operand_owned, two_operands}
use Rattle.covering_laws.proofs.GivenAway.{moved_given, step_gives}
use Rattle.covering_laws.proofs.CallResults.{born_unowned}
use Rattle.covering_laws.proofs.Gifts.{all_keep_gifts}
use Rattle.covering_laws.proofs.Owners.{AllKeepGifts, HoldersWere, KeepsOwners, OwnersGo, StaysApart, WaysGo, held_here, holders_were, old_kept, owners_kept, stays_apart}
use Rattle.covering_laws.proofs.StepWays.{start_births, start_unowned, ways_by}
use Rattle.covering_laws.proofs.StartOwners.{below_further, held_by_lent, start_below, start_owner, start_owners_go}
use Rattle.covering_laws.proofs.LocalSteps.{LocalsIn, all_there, holds_there}
use Rattle.covering_laws.proofs.StartHeaps.{start_carries, start_keeps, start_linked, start_roots, start_unfinished, new_unfinished, new_unlinked}
use Rattle.covering_laws.proofs.Waiting.{AllHeldBefore, IsCarried, KeepsRoots, KeepsUnfinished, all_held_before, all_keep, all_wait, but_texts, frames_ready, no_other, numbered, bore_before, Continues, value_root, was_ready, new_root, AllGoOn, ways_go_on, HoldsThere, all_ready, keeps_roots, still_true, this_was}
use Rattle.covering_laws.proofs.KnownNames.{operand_temp}
use Rattle.covering_laws.proofs.LinkedExceptions.{LinkedWere}
use Rattle.covering_laws.specs.Texts.{TextsAreLight}
use Rattle.value_laws.specs.Frames.{KeepsTargets}
use Rattle.value_laws.specs.Renewing.{HasInHand, HasOwningField, IsHeldBy, IsLentFrom, IsWhole, answers_for_fields, is_declared_beside, is_renewed, renews, reopens}
use Rattle.covering_laws.proofs.RenewedOperands.{HoldsLent, renewed_answered, renewed_not_given, step_renews}
use Rattle.covering_laws.proofs.StartMakers.{holds_nothing, makers_then}
use Rattle.covering_laws.proofs.SuperTargets.{not_this}
use Rattle.covering_laws.proofs.OldAtStarts.{old_then, starts_old}
use Rattle.covering_laws.proofs.ContentHolders.{contents_have_holders}
use Rattle.covering_laws.specs.Sight.{MakesThis}
use Rattle.value_laws.proofs.OldObjects.{begins_over}
use Rattle.value_laws.specs.Chains.{HaveEnds}
use Rattle.value_laws.specs.FieldContents.{AreNew, AreUnfinished, FieldsOwn, HaveContents, MakersOwn}
use Rattle.value_laws.specs.Holders.{HoldersAreUnlinked}
use Rattle.value_laws.proofs.Readings.{operand_renews}
use Rattle.covering_laws.proofs.FieldOwners.{fields_own_by}
use Rattle.covering_laws.proofs.Following.{same_body}
use Rattle.value_laws.proofs.FactOrigins.{this_own}
use Rattle.value_laws.proofs.Growth.{began_grows}
use Rattle.covering_laws.proofs.CallersWait.{caller_waits}
use Rattle.covering_laws.proofs.StartWords.{locals_of, lt_or, object_value, unclaimed_mode}
use Rattle.covering_laws.specs.Linking.{LinkedAreAliases}
use Rattle.covering_laws.proofs.OwnerSteps.{movable_owes}
use Rattle.covering_laws.proofs.ThisEnds.{this_ends}
use Rattle.covering_laws.proofs.ThisAtStarts.{owned_at_start, true_at_start}
use Rattle.covering_laws.proofs.FieldBirths.{field_fact, field_origin}
use Rattle.covering_laws.proofs.StartFields.{IsInFieldAt, field_born}
use Rattle.covering_laws.proofs.StartKinds.{kind_by, named_makes, of_named, self_is_first, super_caller, super_self}

-- what a call leaves of the heap `h` as it begins the frame `begun` on the object `self`
pub record IsStarted (p : Program) (h k : HeapContents) (begun fr : Frame) (frs : List Frame) (self : Value) : Type 0 where
  pub unfinished : KeepsUnfinished h k no_other
  pub this : begun.locals.this ≡ self
  pub before : AllHeldBefore p h k (fr ∷ frs)
  pub linked : LinkedWere h k
  pub owns : FieldsOwn p k
  pub makers : MakersOwn p k (begun ∷ fr ∷ frs)
  pub covered : AreCovered p k (begun ∷ fr ∷ frs)

-- ---- the call

module _ (p : Program) (ac : Accept p) (forms' : HasPlainForms p) (plain : HasPlainRuns p) (h : HeapContents) (texts : TextsAreLight p h) (links : HasEarlierLinks h) (have : HaveEnds h) (owned' : FieldsOwn p h) (linked' : LinkedAreAliases p h) (ranges : FieldsInRange h) (stored : StoredHoldNone (is_text p h) p h)
    (fr : Frame) (frs : List Frame) (stand : AllStand p (fr ∷ frs)) (keeps : KeepsTypes (is_text p h) p fr) (targets : KeepsTargets p fr) (in' : LocalsInRange h fr.locals) (lower : LocalsIn h frs) (old : ℕ → Bool) (is : IsOld p h frs fr old)
    (covered : IsCovered p h gives_none renews_none old frs fr) (low : OwnersBelow h (length frs + 1)) (contents : HaveContents p (fr ∷ frs) h) (news : AreNew p (fr ∷ frs)) (unready : AreUnfinished p h (fr ∷ frs)) (makes : MakesThis p h fr) (makers : MakersOwn p h (fr ∷ frs))
    (holds : HoldsLent p h old frs fr (stand.0)) (arrays : List ArrayObject) (named runs : MethodId) (a : Action)
    (next : IsStartMove p h arrays fr.locals (frame_steps p fr) named runs a) (j : ℕ) (position : j ≡ length (fr ∷ frs) + 1) where
  abbrev st : Stands p fr
  st = stand.0

  abbrev s : Step
  s = next.step

  abbrev l : Locals
  l = fr.locals

  abbrev self : Value
  self = self_begun l s.action h

  abbrev arguments : List Value
  arguments = argument_values l s.action (method_at p named)

  abbrev begun_frame : Frame
  begun_frame = begun p runs self arguments

  abbrev K : HeapContents
  K = began_heap p l s.action (method_at p named) j h

  abbrev run : Method
  run = next.running

  roots : KeepsRoots h K
  roots = start_roots p l s.action (method_at p named) j h links

  row : IsCallRow s.action
  row = subst IsCallRow (sym next.same) next.row

  calls' : called_method s.action ≡ Some named
  calls' = ap called_method next.same ∙ next.calls

  form : IsPlainAction p s.action
  form = plain_step p ac forms' fr st next.index s next.here

  kind : IsOfItsKind p s.action
  kind = (names_what_is_there p ac.well_formed.valid.typed st.number st.body fr.control next.index (move_of s) st.at st.control (step_there p fr st next.index s next.here)).1

  few : length arguments ≤ length run.sig.params.items
  few =
      let count = length-map-range_with_len (operand_of l s.action) 1 (length (params_in (method_at p named))) in
      let same = same_count run.sig.params.items next.method.sig.params.items next.fit.types in
      let named' : length (params_in (method_at p named)) ≡ length next.method.sig.params.items = ap (λ (m : Option Method). length (params_in m)) next.named_at in
      omega (arith, count, same, named')

  begun' : HasBegun p begun_frame runs run self arguments
  begun' = has_begun p ac runs self arguments run next.running_at few next.body

  own_method : method_at p begun'.stands.body.method ≡ Some run
  own_method = ap (method_at p) (begun'.stands.method ∙ begun'.method) ∙ begun'.named

  locals_are : begun_frame.locals ≡ record {
    variables = arguments ++ replicate (variable_count p (body_of (method_at p runs)) - length arguments) values.Nothing;
    this = self;
    temps = [];
  }
  locals_are = locals_of p (body_of (method_at p runs)) (record {
    method = runs;
    control = [];
    locals = record {
      variables = arguments ++ replicate (variable_count p (body_of (method_at p runs)) - length arguments) values.Nothing;
      this = self;
      temps = [];
    };
  })

  -- an object that a value of the caller holds was there
  was : (v : Value) (o : ℕ) (y : Object) → root_of h v ≡ Some o → IsNumber h o → object_at K o ≡ Some y → IsCarried h o y
  was v o y root number at = start_carries p l s.action (method_at p named) j h links o y at number.1

  root_before : (v : Value) (o : ℕ) → IsInRange h v → root_of K v ≡ Some o → root_of h v ≡ Some o
  root_before v o there root = sym (value_root h K roots v there) ∙ root

  -- the frames below the one that begins
  abbrev stack : List Frame
  stack = fr ∷ frs

  same_callee : callee p s.action ≡ method_at p named
  same_callee = ap (callee_in p) calls'

  -- ---- what stays

  started_unfinished : KeepsUnfinished h K no_other
  started_unfinished = start_unfinished p l s.action (method_at p named) j h links

  unlinked : HoldersAreUnlinked (is_heavy_class p) h
  unlinked = contents_have_holders p ac (fr ∷ frs) h contents

  -- who owns what
  goes : OwnersGo p None stack (length frs + 1) h K
  goes = start_owners_go p l s.action (method_at p named) j h links None stack (length frs + 1) (omega (arith, position)) (given_owner p ac h fr st old frs next.index s next.here row covered (method_at p named) same_callee)

  -- the caller owns what it gives
  gives : (n : ℕ) (x : Object) → object_at h n ≡ Some x → is_heavy_class p x.class ≡ true → IsGiven p (operand_of l s.action) 1 (params_in (method_at p named)) h n x → x.owner ≡ owners.Frame (length frs + 1)
  gives n x at heavy g = given_owner p ac h fr st old frs next.index s next.here row covered (method_at p named) same_callee n x at heavy (movable_owes p g.param.vtype x g.may) g

  ways : WaysGo p None stack (length frs + 1) h K
  ways = ways_by p None stack (length frs + 1) h K have unlinked (start_unowned p l s.action (method_at p named) j h links have.unfinished) (began_grows p l s.action (method_at p named) j h).count
      (start_carries p l s.action (method_at p named) j h links) (start_births p l s.action (method_at p named) j (length frs + 1) h links) no_other started_unfinished (λ o never. absurd never)
      (λ w never. absurd (let none : None ≡ Some w = never in cc))

  go_on : AllGoOn p h K
  go_on = ways_go_on p None stack (length frs + 1) h K ways

  holders : HoldersWere p h K
  holders = holders_were p None stack (length frs + 1) h K ways goes

  gifts : AllKeepGifts p h K frs
  gifts = all_keep_gifts p h K roots frs lower

  others' : StaysApart p h K frs fr
  others' = stays_apart p None stack (length frs + 1) h K ways goes frs fr (omega arith) gifts tt (λ w none. none.1) (λ w never this. absurd (let none : None ≡ Some w = never in cc))

  -- what is old for the frame that begins
  begun_old : ℕ → Bool
  begun_old = λ o. old o || old_then p l s.action (method_at p named) j h links have stack o

  begun_is_old : IsOld p K stack begun_frame begun_old
  unfolding begun_old
  begun_is_old = begins_over p K frs fr begun_frame old (old_then p l s.action (method_at p named) j h links have stack)
      (old_kept p h K old frs fr others' go_on is (this_was p h K fr (keeps_roots p h K roots fr inside) inside (all_ready p h K started_unfinished fr) (start_carries p l s.action (method_at p named) j h links)))
      (starts_old p l s.action (method_at p named) j h links have fr frs unlinked contents gives
      (λ w y this there wide none e top some. this_ends p ac forms' h have links owned' fr in' st old frs targets unready.1 is gives_none renews_none covered w y this there wide none e top some)
      next.method run next.named_at next.fit (subst (OwnersBelow h) (let number : length frs + 1 ≡ length stack = omega arith in number) low) begun_frame (ap (method_at p) begun'.method ∙ begun'.named))
    where
      inside : HoldsThere p h fr
      inside = holds_there p h ranges fr in'

  stays_old : (o : ℕ) → old o ≡ true → begun_old o ≡ true
  unfolding begun_old
  stays_old o was = or_left (old o) (old_then p l s.action (method_at p named) j h links have stack o) was

  bore : (o : ℕ) (x y : Object) → object_at h o ≡ Some x → (x.finished ≡ true → Continues x y) → OwesOrHolds p K o y → OwesOrHolds p h o x
  bore o x y before goes' owes = bore_before p h K holders o x y before goes' owes

  -- ---- what is lent to the frame that begins

  -- the object of the operand whose obligation the call creates anew is lent to it, if it is finished, or its class has owning fields
  renewed_lent : (k o : ℕ) (y : Object) → next.method.sig.reset ≡ Some k → root_of h (operand_of l s.action k) ≡ Some o → object_at K o ≡ Some y → is_heavy_class p y.class ≡ true → OwesOrHolds p K o y → IsWhole p y → IsLentFrom p K stack o y.owner
  renewed_lent k o y position root at heavy owes whole = by (was (operand_of l s.action k) o y root (numbered h links (operand_of l s.action k) o root (operand_in_range h l in' s.action k)) at)
    where
      target : reset_in (callee p s.action) ≡ Some k
      target = ap reset_in (same_callee ∙ next.named_at) ∙ position

      renewed : is_renewed p K fr o ≡ true
      renewed = step_renews p K fr next.index s o next.here (operand_renews p K fr.locals s.action o k target (value_root h K roots (operand_of l s.action k) (operand_in_range h l in' s.action k) ∙ root))

      does : renews p h fr.locals s.action o ≡ true
      does = operand_renews p h fr.locals s.action o k target root

      by : IsCarried h o y → IsLentFrom p K stack o y.owner
      by (x, before, class, goes) = (renewed, hand (renewed_answered p ac h fr st old frs next.index s next.here row covered holds have targets makes o x before heavy' (bore o x y before goes owes) does whole'))
        where
          heavy' : is_heavy_class p x.class ≡ true
          heavy' = ap (is_heavy_class p) (sym class) ∙ heavy

          whole' : IsWhole p x
          whole' = elim whole [ inl done ↦ inl (was_ready x y (λ none. started_unfinished o x y (λ never. never) before at none) done) | inr fields ↦ inr (subst (HasOwningField p) class fields) ]

          same : y.owner ≡ x.owner
          same = elim (start_owner p l s.action (method_at p named) j h links o x y before at) [
            | inl same' ↦ same'
            | inr given ↦ absurd (true≢false (sym (moved_given p h l s.action (method_at p named) o x same_callee given.1)
                ∙ renewed_not_given p ac h fr st old frs next.index s next.here row covered holds have targets makes o x before heavy' (bore o x y before goes owes) does whole'))
          ]

          -- what the caller has in hand it has so
          hand : HasInHand p h (IsLentFrom p h frs) (length frs + 1) fr o x.owner → HasInHand p K (IsLentFrom p K frs) (length frs + 1) fr o y.owner
          hand (inl own) = inl (same ∙ own)
          hand (inr (inl lent)) = inr (inl (others'.keeps o x y before at (whole', heavy') lent).1)
          hand (inr (inr (inl held))) = inr (inr (inl (subst (IsHeldBy p fr) (sym same) held)))
          hand (inr (inr (inr (inl held)))) = inr (inr (inr (inl (held_by_lent p h K frs fr others' ways (λ n u v was' now open'. started_unfinished n u v (λ never. never) was' now open') x.owner y.owner same held))))
          hand (inr (inr (inr (inr made)))) = inr (inr (inr (inr (made.0, same ∙ made.1))))

  -- a parameter of a constructor is not the object that it makes, where this is not finished
  renewed_apart : (k o : ℕ) (y : Object) → next.method.sig.reset ≡ Some (k + 1) → root_of h (operand_of l s.action (k + 1)) ≡ Some o → object_at K o ≡ Some y → is_heavy_class p y.class ≡ true → OwesOrHolds p K o y → HasOwningField p y.class → y.finished ≡ false
      → constructs (method_at p begun_frame.method) ≡ true → begun_frame.locals.this ≡ values.Object o → ⊥
  renewed_apart k o y position root at heavy owes fields open' makes' this = go s.action refl
    where
      number : IsNumber h o
      number = numbered h links (operand_of l s.action (k + 1)) o root (operand_in_range h l in' s.action (k + 1))

      x : IsCarried h o y
      x = was (operand_of l s.action (k + 1)) o y root number at

      unmade : (b : Bool) → x.0.finished ≡ b → x.0.finished ≡ false
      unmade false none = none
      unmade true done = absurd (true≢false (sym ((x.3 done).0.finished ∙ done) ∙ open'))

      its : is_constructor_kind run.kind ≡ true
      its = sym (ap constructs (ap (method_at p) begun'.method ∙ begun'.named)) ∙ makes'

      go : (b : Action) → s.action ≡ b → ⊥
      go actions.Skip it = subst IsCallRow it row
      go (actions.New m d n) it =
          let same : next_number h ≡ o = (let both : values.Object (next_number h) ≡ values.Object o = ap (λ (b : Action). self_begun l b h) (sym it) ∙ sym begun'.this ∙ this in (let one : next_number h ≡ o = cc in one)) in
          let under = number.1 in
          omega (arith, same, under)
      go (actions.Super m d n) it =
          not_this p ac forms' h fr st old frs next.index s next.here row covered holds have targets makes o x.0 x.1 (ap (is_heavy_class p) (sym x.2) ∙ heavy) (bore o x.0 y x.1 x.3 owes) (ap (is_reset_of_this p) it) k
          (ap reset_in (same_callee ∙ next.named_at) ∙ position) root (unmade x.0.finished refl) (subst (HasOwningField p) x.2 fields) (super_caller p ac forms' plain h fr st arrays named runs a next m d n it its) (sym (super_self p ac forms' plain h fr st arrays named runs a next targets m d n it) ∙ sym begun'.this ∙ this)
      go (actions.Call m d n g) it =
          true≢false (sym (ap (λ (z : MethodId). constructs (method_at p z)) (of_named p ac forms' plain h fr st arrays named runs a next m (ap called_method it)) ∙ named_makes p ac forms' plain h fr st arrays named runs a next its) ∙ subst (IsOfItsKind p) it kind)
      go b it = subst IsCallRow it row

  -- ---- the places of the frame that begins

  -- an owning parameter of a type that has an obligation takes the object that the place holds
  abbrev TakesAt : Place → ℕ → Type 0
  TakesAt q o = (i : ℕ) × (q ≡ places.Var i) × (x : ParamSig) × (slice_get next.method.sig.params.items i ≡ Some x) × (x.owning ≡ true) × (not (is_empty (must_of_optional p (Some x.vtype))) ≡ true)
      × (root_of h (operand_of l s.action (i + 1)) ≡ Some o)

  -- the place is in a fact that claims the object, which was an argument, or which an owning field owns, or in one that claims nothing
  abbrev Covered : Place → ℕ → Object → Type 0
  Covered q o y =
      ((c : Covers p K false false begun_old stack begun_frame o y) × (has c.fact.places q ≡ true) × (claims p (method_at p begun_frame.method) c.origin c.fact ≡ true) × (TakesAt q o ⊎ IsInFieldAt p q y c.fact))
      ⊎ IsUnowned p K false false begun_old stack begun_frame q o y

  unowned_born : (q : Place) (o : ℕ) (y : Object) (g : Origin) (f : Fact) → (c : Covers p K false false begun_old stack begun_frame o y) × (has c.fact.places q ≡ true) × (c.origin ≡ g) × (c.fact ≡ f) → (claims p (method_at p begun_frame.method) g f ≡ true → ⊥)
      → Covered q o y
  unowned_born q o y g f c none = inr (born_unowned p K false begun_old stack begun_frame q o y g f c (go (claims p (method_at p begun_frame.method) g f) refl))
    where
      go : (b : Bool) → claims p (method_at p begun_frame.method) g f ≡ b → claims p (method_at p begun_frame.method) g f ≡ false
      go true is' = absurd (none is')
      go false is' = is'

  -- a fact in another mode claims nothing
  not_owning : (g : Origin) (f : Fact) → (is_own f.mode || is_held f.mode) ≡ false → claims p (method_at p begun_frame.method) g f ≡ true → ⊥
  not_owning g f none is' = true≢false (sym (claims_owned p (method_at p begun_frame.method) g f is').1 ∙ none)

  -- ---- parameters

  module _ (i o : ℕ) (y : Object) (room : i < 160) (root : root_of K (variable_value begun_frame.locals i) ≡ Some o) (at : object_at K o ≡ Some y) (heavy : is_heavy_class p y.class ≡ true) (owes : OwesOrHolds p K o y)
      (v : Value) (arg : slice_get arguments i ≡ Some v) (value : variable_value begun_frame.locals i ≡ v) where
    inside : i < length (params_in (method_at p named))
    inside = let long = length-map-range_with_len (operand_of l s.action) 1 (length (params_in (method_at p named))) in let there = slice_get_within arguments i v arg in omega (arith, long, there)

    operand_is : v ≡ operand_of l s.action (i + 1)
    operand_is = (let both : Some v ≡ Some (operand_of l s.action (1 + i)) = sym arg ∙ argument_at (operand_of l s.action) (length (params_in (method_at p named))) i inside in (
        let one : v ≡ operand_of l s.action (1 + i) = cc in one)) ∙ ap (operand_of l s.action) (let same : 1 + i ≡ i + 1 = omega arith in same)

    operand_root : root_of h (operand_of l s.action (i + 1)) ≡ Some o
    operand_root = root_before (operand_of l s.action (i + 1)) o (operand_in_range h l in' s.action (i + 1)) (ap (root_of K) (sym (value ∙ operand_is)) ∙ root)

    param : (x : ParamSig) × (slice_get (params_in (method_at p named)) i ≡ Some x)
    param = element_there (params_in (method_at p named)) i inside

    param_at : slice_get next.method.sig.params.items i ≡ Some param.0
    param_at = ap (λ (m : Option Method). slice_get (params_in m) i) (sym next.named_at) ∙ param.1

    like : (z : ParamSig) × (slice_get run.sig.params.items i ≡ Some z) × (is_type z.vtype param.0.vtype ≡ true) × (differ z.owning param.0.owning ≡ false)
    like = alike_parameter run.sig.params.items next.method.sig.params.items i param.0 next.fit.types next.fit.owning param_at

    carried : IsCarried h o y
    carried = was (operand_of l s.action (i + 1)) o y operand_root (numbered h links (operand_of l s.action (i + 1)) o operand_root (operand_in_range h l in' s.action (i + 1))) at

    of_class : (c : ClassId) → param.0.vtype ≡ types.Obj c → Covered (places.Var i) o y
    of_class c type = by like.0.owning refl
      where
        type' : like.0.vtype ≡ types.Obj c
        type' = class_type_is like.0.vtype c (ap (is_type like.0.vtype) (sym type) ∙ like.2)

        has_params : HasParameters begun'.stands.body.vars.items run.sig.params.items
        has_params = (subst (λ (z : Option Method). IsSomeAnd z (IsBodyOf begun'.stands.number begun'.stands.body)) own_method
            (ac.well_formed.valid.typed.bodies begun'.stands.number begun'.stands.body begun'.stands.at).method).1

        var : (v' : Var) × (slice_get begun'.stands.body.vars.items i ≡ Some v')
        var = parameter_at begun'.stands.body.vars.items run.sig.params.items i like.0 has_params like.1

        birth : (n : ℕ) × (slice_get (births_at_entry p begun'.stands.number) n ≡ Some ((origin_of p (kinds.Param i) var.0.pos c None), fact_at (places.Var i) (parameter_mode run.sig (i + 1) like.0) like.0.before true))
        birth =
            let n = parameter_born p begun'.stands.body run.sig 0 i i run.sig.params.items like.0 var.0 c (omega arith) like.1 var.1 type' in
            of_parameter p begun'.stands.number begun'.stands.body run begun'.stands.at own_method n.0 ((origin_of p (kinds.Param i) var.0.pos c None), fact_at (places.Var i) (parameter_mode run.sig (i + 1) like.0) like.0.before true) n.1

        covers : (claims p (method_at p begun_frame.method) (origin_of p (kinds.Param i) var.0.pos c None) (fact_at (places.Var i) (parameter_mode run.sig (i + 1) like.0) like.0.before true) ≡ true → IsTrueOf p y (origin_of p (kinds.Param i) var.0.pos c None) (fact_at (places.Var i) (parameter_mode run.sig (i + 1) like.0) like.0.before true))
            → (z : Covers p K false false begun_old stack begun_frame o y) × (has z.fact.places (places.Var i) ≡ true) × (z.origin ≡ (origin_of p (kinds.Param i) var.0.pos c None)) × (z.fact ≡ (fact_at (places.Var i) (parameter_mode run.sig (i + 1) like.0) like.0.before true))
        covers truth = entered_covers p K begun_frame begun'.stands begun'.starts begun_old stack (places.Var i) o y (origin_of p (kinds.Param i) var.0.pos c None) (parameter_mode run.sig (i + 1) like.0) like.0.before true birth.0 room birth.1 root (λ claimed said. truth claimed) lent'
            (λ held. absurd (true≢false (sym held ∙ parameter_unheld run.sig (i + 1) like.0)))
            (λ done held answers keeps' wide. absurd (true≢false (sym held ∙ parameter_unheld run.sig (i + 1) like.0)))
            (λ mode done. renewed_lent (i + 1) o y (next.fit.reset (i + 1) (lent_parameter run.sig (i + 1) like.0 mode)) operand_root at heavy owes (inl done))
            (λ constructor this. absurd (no_parameter i this))
            (λ mode other fields open'. (
              renewed_lent (i + 1) o y (next.fit.reset (i + 1) (lent_parameter run.sig (i + 1) like.0 mode)) operand_root at heavy owes (inr fields),
              λ makes' this. renewed_apart i o y (next.fit.reset (i + 1) (lent_parameter run.sig (i + 1) like.0 mode)) operand_root at heavy owes fields open' makes' this,
            ))
            (λ k same claimed. absurd (let never : places.Var i ≡ places.Field k = same in cc)) (λ k same heavy'. absurd (let never : places.Var i ≡ places.Field k = same in cc))
            (λ opens k same. absurd (let never : places.Var i ≡ places.Field k = same in cc))
          where
            is_lent_here : is_lent p (method_at p begun_frame.method) (kinds.Param i) ≡ is_lent_parameter p (Some like.0)
            is_lent_here = ap (λ (m : Option Method). is_lent p m (kinds.Param i)) (ap (method_at p) begun'.method ∙ begun'.named) ∙ ap (is_lent_parameter p) like.1

            lent' : is_lent p (method_at p begun_frame.method) (kinds.Param i) ≡ true
                → ((is_heavy_class p c && is_own (parameter_mode run.sig (i + 1) like.0)) ≡ false) × (is_held (parameter_mode run.sig (i + 1) like.0) ≡ false)
                × (set.is_subset like.0.before (asked_of p (method_at p begun_frame.method) (kinds.Param i)) ≡ true)
            lent' is' =
                let lent = sym is_lent_here ∙ is' in (
                  lent_unowned p run.sig (i + 1) like.0 c type' lent,
                  parameter_unheld run.sig (i + 1) like.0,
                  ap (set.is_subset like.0.before) (ap (λ (m : Option Method). asked_of p m (kinds.Param i)) (ap (method_at p) begun'.method ∙ begun'.named) ∙ ap (asked_by p) like.1 ∙ asked_here p like.0 lent) ∙ within_self like.0.before,
                )

        -- what covers the argument in the caller says that the caller owns it
        given : like.0.owning ≡ true → is_heavy_class p c ≡ true → IsTrueOf p y (origin_of p (kinds.Param i) var.0.pos c None) (fact_at (places.Var i) modes.Own like.0.before true)
        given owning heavy' =
            let owning' = same_mark like.0.owning param.0.owning like.3 owning in
            let cover = operand_owned p ac h fr st old frs next.index s next.here row covered o carried.0 carried.1 (ap (is_heavy_class p) (sym carried.2) ∙ heavy) (bore o carried.0 y carried.1 carried.3 owes) next.method i param.0
            (same_callee ∙ next.named_at) param_at owning' operand_root (subst (λ (t : VType). not (is_empty (must_of_optional p (Some t))) ≡ true) (sym type) heavy') in
            given_is_true p ac h fr st old frs next.index s next.here row o carried.0 y cover.0 next.method i param.0 (same_callee ∙ next.named_at) param_at owning'
            (ap (has_temp cover.0.fact.places) (operand_temp l s.action (i + 1) h o operand_root).1 ∙ cover.1) c type heavy' (λ done. (carried.3 done).0) (kinds.Param i) var.0.pos (places.Var i) like.0.before
            (next.fit.asks i like.0 param.0 like.1 param_at)

        owned_by : (b : Bool) → is_heavy_class p c ≡ b → like.0.owning ≡ true → Covered (places.Var i) o y
        owned_by true heavy' owning =
            let z = covers (subst (λ (m : Mode). claims p (method_at p begun_frame.method) (origin_of p (kinds.Param i) var.0.pos c None) (fact_at (places.Var i) m like.0.before true) ≡ true → IsTrueOf p y (origin_of p (kinds.Param i) var.0.pos c None) (fact_at (places.Var i) m like.0.before true)) (sym (rw owning refl))
            (λ claimed. given owning heavy')) in
            inl (
              z.0,
              z.1,
              ap (λ (u : Origin). claims p (method_at p begun_frame.method) u z.0.fact) z.2 ∙ ap (claims p (method_at p begun_frame.method) (origin_of p (kinds.Param i) var.0.pos c None)) z.3
                  ∙ and_from (is_heavy_class p c) (is_own (parameter_mode run.sig (i + 1) like.0) || is_held (parameter_mode run.sig (i + 1) like.0) && answers_for_fields (method_at p begun_frame.method)) heavy'
                  (or_left (is_own (parameter_mode run.sig (i + 1) like.0)) (is_held (parameter_mode run.sig (i + 1) like.0) && answers_for_fields (method_at p begun_frame.method)) (rw owning refl)),
              inl (i, refl, param.0, param_at, same_mark like.0.owning param.0.owning like.3 owning, subst (λ (t : VType). not (is_empty (must_of_optional p (Some t))) ≡ true) (sym type) heavy', operand_root),
            )
        owned_by false light owning = unowned_born (places.Var i) o y (origin_of p (kinds.Param i) var.0.pos c None) (fact_at (places.Var i) (parameter_mode run.sig (i + 1) like.0) like.0.before true)
            (covers (λ claimed. absurd (true≢false (sym (claims_owned p (method_at p begun_frame.method) (origin_of p (kinds.Param i) var.0.pos c None) (fact_at (places.Var i) (parameter_mode run.sig (i + 1) like.0) like.0.before true) claimed).0 ∙ light))))
            (λ is'. true≢false (sym (claims_owned p (method_at p begun_frame.method) (origin_of p (kinds.Param i) var.0.pos c None) (fact_at (places.Var i) (parameter_mode run.sig (i + 1) like.0) like.0.before true) is').0 ∙ light))

        by : (b : Bool) → like.0.owning ≡ b → Covered (places.Var i) o y
        by true owning = owned_by (is_heavy_class p c) refl owning
        by false other = unowned_born (places.Var i) o y (origin_of p (kinds.Param i) var.0.pos c None) (fact_at (places.Var i) (parameter_mode run.sig (i + 1) like.0) like.0.before true)
            (covers (λ claimed. absurd (unclaimed_mode p (method_at p begun_frame.method) (origin_of p (kinds.Param i) var.0.pos c None) (places.Var i) (parameter_mode run.sig (i + 1) like.0) like.0.before true (rw other (lent_or_none _ _)) claimed)))
            (not_owning (origin_of p (kinds.Param i) var.0.pos c None) (fact_at (places.Var i) (parameter_mode run.sig (i + 1) like.0) like.0.before true) (rw other (lent_or_none _ _)))

    of_none : is_class_type param.0.vtype ≡ false → ⊥
    of_none none =
        true≢false (sym (ap (is_heavy_class p) (sym carried.2) ∙ heavy)
        ∙ texts (operand_of l s.action (i + 1)) o carried.0 (argument_is_no_object (is_text p h) p ac fr keeps next.index s named i param.0 next.here calls' param.1 none) operand_root carried.1)

    variable_covered : Covered (places.Var i) o y
    variable_covered = by param.0.vtype refl
      where
        by : (t : VType) → param.0.vtype ≡ t → Covered (places.Var i) o y
        by (types.Obj c) type = of_class c type
        by (types.Primitive k) type = absurd (of_none (ap is_class_type type))
        by types.Str type = absurd (of_none (ap is_class_type type))
        by (types.Arr k) type = absurd (of_none (ap is_class_type type))
        by types.NullType type = absurd (of_none (ap is_class_type type))

  -- ---- `this`

  -- the object of a constructor is not finished
  this_unfinished : (o : ℕ) (y : Object) → root_of K begun_frame.locals.this ≡ Some o → object_at K o ≡ Some y → is_heavy_class p y.class ≡ true → OwesOrHolds p K o y → is_constructor_kind run.kind ≡ true → y.finished ≡ false
  this_unfinished o y held at heavy owes makes = go s.action refl
    where
      of_new : (m : MethodId) (d n : ℕ) → s.action ≡ actions.New m d n → y.finished ≡ false
      of_new m d n it =
          let self_is : begun_frame.locals.this ≡ values.Object (next_number h) = begun'.this ∙ ap (λ (b : Action). self_begun l b h) it in
          let unlinked : root K (next_number h) ≡ next_number h = new_root h K (λ z now. new_unlinked p l s.action (method_at p named) j h links z now) in
          let number : next_number h ≡ o = (let both : Some (next_number h) ≡ Some o = ap Some (sym unlinked) ∙ ap (root_of K) (sym self_is) ∙ held in (let one : next_number h ≡ o = cc in one)) in
          new_unfinished p l s.action (method_at p named) j h links y (ap (object_at K) number ∙ at)

      of_super : (m : MethodId) (d n : ℕ) → s.action ≡ actions.Super m d n → y.finished ≡ false
      of_super m d n it =
          let root' : root_of h l.this ≡ Some o = root_before l.this o in'.this (ap (root_of K) (sym (begun'.this ∙ super_self p ac forms' plain h fr st arrays named runs a next targets m d n it)) ∙ held) in
          by root' (was l.this o y root' (numbered h links l.this o root' in'.this) at)
        where
          by : root_of h l.this ≡ Some o → IsCarried h o y → y.finished ≡ false
          by root' (x, before, class, goes) =
              let cover = covered_at p h false false old frs fr places.This o x (covered places.This o x tt refl root' before (ap (is_heavy_class p) (sym class) ∙ heavy) (bore o x y before goes owes)) in
              let reach = subst (λ (b : BodyId). Reach p b (relation_of p b) cover.0.origin fr.control cover.0.fact) (same_body cover.0.body st.number (body_id p fr.method) cover.0.id st.id) cover.0.reached in
              started_unfinished o x y (λ never. never) before at (cover.0.makes (super_caller p ac forms' plain h fr st arrays named runs a next m d n it makes) (this_own p ac st.number st.body st.at cover.0.origin fr.control cover.0.fact reach cover.1))

      go : (b : Action) → s.action ≡ b → y.finished ≡ false
      go actions.Skip it = absurd (subst IsCallRow it row)
      go (actions.New m d n) it = of_new m d n it
      go (actions.Super m d n) it = of_super m d n it
      go (actions.Call m d n g) it =
          absurd (true≢false (sym (ap (λ (z : MethodId). constructs (method_at p z)) (of_named p ac forms' plain h fr st arrays named runs a next m (ap called_method it)) ∙ named_makes p ac forms' plain h fr st arrays named runs a next makes) ∙ subst (IsOfItsKind p) it kind))
      go b it = absurd (subst IsCallRow it row)

  first_root : is_constructor_kind run.kind ≡ false → (o : ℕ) → root_of K begun_frame.locals.this ≡ Some o → root_of h (operand_of l s.action 0) ≡ Some o
  first_root other o root = root_before (operand_of l s.action 0) o (operand_in_range h l in' s.action 0) (ap (root_of K) (sym (begun'.this ∙ self_is_first p ac forms' plain h fr st arrays named runs a next other)) ∙ root)

  -- what runs no constructor is lent `this` where it creates its obligation anew
  this_lent : (o : ℕ) (y : Object) → root_of K begun_frame.locals.this ≡ Some o → object_at K o ≡ Some y → is_heavy_class p y.class ≡ true → OwesOrHolds p K o y → this_mode run.sig run.kind ≡ modes.Lent → y.finished ≡ true → IsLentFrom p K stack o y.owner
  this_lent o y root at heavy owes mode done = go (is_constructor_kind run.kind) refl
    where
      go : (b : Bool) → is_constructor_kind run.kind ≡ b → IsLentFrom p K stack o y.owner
      go true makes = absurd (true≢false (sym done ∙ this_unfinished o y root at heavy owes makes))
      go false other = renewed_lent 0 o y (next.fit.reset 0 (lent_this run.sig run.kind other mode)) (first_root other o root) at heavy owes (inl done)

  -- and so it is where its class has owning fields
  open_lent : (o : ℕ) (y : Object) → root_of K begun_frame.locals.this ≡ Some o → object_at K o ≡ Some y → is_heavy_class p y.class ≡ true → OwesOrHolds p K o y → this_mode run.sig run.kind ≡ modes.Lent
      → constructs (method_at p begun_frame.method) ≡ false → HasOwningField p y.class → IsLentFrom p K stack o y.owner
  open_lent o y root at heavy owes mode none fields = renewed_lent 0 o y (next.fit.reset 0 (lent_this run.sig run.kind other mode)) (first_root other o root) at heavy owes (inr fields)
    where
      other : is_constructor_kind run.kind ≡ false
      other = sym (ap constructs (ap (method_at p) begun'.method ∙ begun'.named)) ∙ none

  constructor_or_not : (b : Bool) → (b && true) ≡ false → b ≡ false
  constructor_or_not true none = absurd (true≢false none)
  constructor_or_not false none = refl

  this_covered : (o : ℕ) (y : Object) → root_of K begun_frame.locals.this ≡ Some o → object_at K o ≡ Some y → is_heavy_class p y.class ≡ true → OwesOrHolds p K o y → Covered places.This o y
  this_covered o y root at heavy owes =
      let w = object_value K self o (ap (root_of K) (sym begun'.this) ∙ root) in
      let born = this_born p run (elim (kind_by p ac forms' plain h fr st arrays named runs a next w.0 w.1) [ inl one ↦ ap has_this one | inr new ↦ ap has_this new ]) in
      let g : Origin = origin_of p kinds.ThisRef run.pos run.class None in
      let n = of_this p begun'.stands.number begun'.stands.body run begun'.stands.at own_method (g, fact_at places.This (this_mode run.sig run.kind) no_names true) born in
      unowned_born places.This o y g (fact_at places.This (this_mode run.sig run.kind) no_names true)
      (entered_covers p K begun_frame begun'.stands begun'.starts begun_old stack places.This o y g (this_mode run.sig run.kind) no_names true n.0 tt n.1 root
      (λ claimed said. absurd (unclaimed_mode p (method_at p begun_frame.method) g places.This (this_mode run.sig run.kind) no_names true (this_unowned run.sig run.kind) claimed))
      (λ lent. (
        not_and (is_heavy_class p run.class) (is_own (this_mode run.sig run.kind)) (not_own (is_own (this_mode run.sig run.kind)) (is_held (this_mode run.sig run.kind)) (this_unowned run.sig run.kind)),
        not_held (is_own (this_mode run.sig run.kind)) (is_held (this_mode run.sig run.kind)) (this_unowned run.sig run.kind),
        empty_within (asked_of p (method_at p begun_frame.method) kinds.ThisRef),
      )) (λ held. within_self no_names)
      (λ done held answers keeps' wide. absurd (true≢false (sym (or_right (is_own (this_mode run.sig run.kind)) (is_held (this_mode run.sig run.kind)) held) ∙ this_unowned run.sig run.kind)))
      (this_lent o y root at heavy owes) (λ constructor this. this_unfinished o y root at heavy owes (sym (ap constructs (ap (method_at p) begun'.method ∙ begun'.named)) ∙ constructor))
      (λ mode other fields open'. (
      let none = constructor_or_not (constructs (method_at p begun_frame.method)) other in
      (open_lent o y root at heavy owes mode none fields, λ makes' this. true≢false (sym makes' ∙ none))))
      (λ k same claimed. absurd (let never : places.This ≡ places.Field k = same in cc)) (λ k same heavy'. absurd (let never : places.This ≡ places.Field k = same in cc))
      (λ opens k same. absurd (let never : places.This ≡ places.Field k = same in cc)))
      (not_owning g (fact_at places.This (this_mode run.sig run.kind) no_names true) (this_unowned run.sig run.kind))

  -- ---- owning fields of `this`

  module _ (n o : ℕ) (y : Object) (room : n < 16) (at : object_at K o ≡ Some y) (heavy : is_heavy_class p y.class ≡ true) (owes : OwesOrHolds p K o y) (f : FieldId) (beside : owning_field_beside p begun_frame.method n ≡ Some f)
      (root : root_of K (field_of p K begun_frame.locals.this f) ≡ Some o) where
    field : IsBeside p run n f
    field = place_of_beside p ac.well_formed.valid.typed begun_frame.method run n f (ap (method_at p) begun'.method ∙ begun'.named) room beside

    holder : (w : ℕ) × (begun_frame.locals.this ≡ values.Object w)
    holder = go begun_frame.locals.this refl root
      where
        go : (u : Value) → begun_frame.locals.this ≡ u → root_of K (field_of p K u f) ≡ Some o → (w : ℕ) × (begun_frame.locals.this ≡ values.Object w)
        go (values.Object w) is root' = (w, is)
        go values.Nothing is root' = absurd (let never : None ≡ Some o = root' in cc)
        go u is root' = absurd (let never : None ≡ Some o = root' in cc)

    abbrev w : ℕ
    w = holder.0

    held_root : root_of h (field_value p h w f) ≡ Some o
    held_root = root_before (field_value p h w f) o (field_in_range p h ranges (values.Object w) f) (ap (root_of K) (sym (start_keeps p l s.action (method_at p named) j h links w f (ap is_owning_field field.at ∙ field.owning)))
        ∙ ap (λ (u : Value). root_of K (field_of p K u f)) (sym holder.1) ∙ root)

    -- what a constructor that begins runs on holds nothing
    instance : run.kind ≡ methods.Ctor → ⊥
    instance new =
        let its : method_at p begun_frame.method ≡ Some run = ap (method_at p) begun'.method ∙ begun'.named in
        holds_nothing p ac forms' h links have ranges fr frs st arrays named runs a next j begun_frame its begun'.this (ap constructs its ∙ ap is_constructor_kind new) f
        (ap (is_declared_beside p begun_frame.method) field.at ∙ and_from field.field.owning (is_class_of field.field.class (method_at p begun_frame.method)) field.owning
        (ap (is_class_of field.field.class) its ∙ ap (is_class field.field.class) (sym field.class) ∙ eq-eqb field.field.class.0 field.field.class.0 refl))
        w f o holder.1 held_root

    is_instance : run.kind ≡ methods.Instance
    is_instance = elim (kind_by p ac forms' plain h fr st arrays named runs a next w (sym begun'.this ∙ holder.1)) [ inl one ↦ one | inr new ↦ absurd (instance new) ]

    held_before : IsCarried h o y
    held_before = was (field_value p h w f) o y held_root (numbered h links (field_value p h w f) o held_root (field_in_range p h ranges (values.Object w) f)) at

    runs_it : method_at p begun_frame.method ≡ Some run
    runs_it = ap (method_at p) begun'.method ∙ begun'.named

    of_field_class : (c : ClassId) → field.field.vtype ≡ types.Obj c → Covered (places.Field n) o y
    of_field_class c type =
        elim (field_born p ac K begun_frame begun'.stands begun'.starts begun_old stack run runs_it own_method is_instance n o y room f field beside root w holder.1 c type answered) [
          | inl born ↦ inl (born.0, born.1, born.2, inr born.3)
          | inr u ↦ inr u
        ]
      where
        -- where the method answers for it, the field owns the object, and the birth is true of it
        answered : reopens (Some run) ≡ true → is_heavy_class p c ≡ true → is_heavy_in p (Some f) ≡ true → (y.owner ≡ owners.Field w f) × IsTrueOf p y (field_origin p f field.field.pos c) (field_fact p f)
        answered opens heavy' typed = (
          elim (start_owner p l s.action (method_at p named) j h links o held_before.0 y held_before.1 at) [
            | inl same ↦ same ∙ owned
            | inr given ↦ absurd (let never : owners.Field w f ≡ owners.Frame (length frs + 1) = sym owned ∙ gives o held_before.0 held_before.1 wide given.1 in cc)
          ],
          still_true p held_before.0 y (field_origin p f field.field.pos c) (field_fact p f) (held_before.3 truth.finished).0 truth,
        )
          where
            wide : is_heavy_class p (held_before.0).class ≡ true
            wide = ap (is_heavy_class p) (sym held_before.2) ∙ heavy

            first : operand_of l s.action 0 ≡ values.Object w
            first = sym (self_is_first p ac forms' plain h fr st arrays named runs a next (ap is_constructor_kind is_instance)) ∙ sym begun'.this ∙ holder.1

            owes' : OwesOrHolds p h o held_before.0
            owes' = bore o held_before.0 y held_before.1 held_before.3 owes

            owned : (held_before.0).owner ≡ owners.Field w f
            owned = owned_at_start p ac forms' h links owned' linked' fr frs stand makes targets in' old covered holds have arrays named runs a next begun_frame begun'.stands runs_it opens n f field c type heavy' typed
                w first o held_before.0 held_root held_before.1 wide contents makers owes'

            truth : IsTrueOf p held_before.0 (field_origin p f field.field.pos c) (field_fact p f)
            truth = true_at_start p ac forms' h links owned' linked' fr frs stand makes targets in' old covered holds have arrays named runs a next begun_frame begun'.stands runs_it opens n f field c type heavy' typed
                w first o held_before.0 held_root held_before.1 wide contents makers owes' field.field.pos

    of_no_class : is_class_type field.field.vtype ≡ false → ⊥
    of_no_class none =
        true≢false (sym (ap (is_heavy_class p) (sym held_before.2) ∙ heavy)
        ∙ texts (field_value p h w f) o held_before.0 (field_is_none (is_text p h) p h w f stored (subst (λ (x : Option Field). NoObject (operand_types.type_of_field x)) (sym field.at) none)) held_root held_before.1)

    field_covered : Covered (places.Field n) o y
    field_covered = by field.field.vtype refl
      where
        by : (t : VType) → field.field.vtype ≡ t → Covered (places.Field n) o y
        by (types.Obj c) type = of_field_class c type
        by (types.Primitive k) type = absurd (of_no_class (ap is_class_type type))
        by types.Str type = absurd (of_no_class (ap is_class_type type))
        by (types.Arr k) type = absurd (of_no_class (ap is_class_type type))
        by types.NullType type = absurd (of_no_class (ap is_class_type type))

  -- ---- all places

  placed : (q : Place) (o : ℕ) (y : Object) → IsSmall q → root_of K (place_value p K begun_frame.method begun_frame.locals q) ≡ Some o → object_at K o ≡ Some y → is_heavy_class p y.class ≡ true → OwesOrHolds p K o y → Covered q o y
  placed (places.Var i) o y room root at heavy owes =
      let rest : ℕ = variable_count p (body_of (method_at p runs)) - length arguments in
      let is : variable_value begun_frame.locals i ≡ value_or_nothing (slice_get (arguments ++ replicate rest values.Nothing) i) = ap (λ (x : Locals). variable_value x i) locals_are in
      elim (argument_or_nothing arguments rest i) [
        | inl arg ↦ variable_covered i o y room root at heavy owes (value_or_nothing (slice_get (arguments ++ replicate rest values.Nothing) i)) arg is
        | inr none ↦ absurd (let never : None ≡ Some o = ap (root_of K) (sym (is ∙ none)) ∙ root in cc)
      ]
  placed (places.Temp d) o y room root at heavy owes = absurd (no_temp d o (ap (λ (x : Locals). root_of K (temp_value x d)) (sym locals_are) ∙ root))
    where
      no_temp : (k o' : ℕ) → root_of K (value_or_nothing (slice_get [] k)) ≡ Some o' → ⊥
      no_temp zero o' is = let never : None ≡ Some o' = is in cc
      no_temp (suc k) o' is = let never : None ≡ Some o' = is in cc
  placed places.This o y room root at heavy owes = this_covered o y root at heavy owes
  placed (places.Field n) o y room root at heavy owes = go (owning_field_beside p begun_frame.method n) refl root
    where
      go : (x : Option FieldId) → owning_field_beside p begun_frame.method n ≡ x → root_of K (field_place_value p K begun_frame.locals.this x) ≡ Some o → Covered (places.Field n) o y
      go None is root' = absurd (let never : None ≡ Some o = root' in cc)
      go (Some f) is root' = field_covered n o y room at heavy owes f is root'
  placed places.Super o y room root at heavy owes = absurd (let never : None ≡ Some o = root in cc)

  -- no two owning parameters take the same object
  not_twice : (q r : Place) (o : ℕ) (y : Object) → object_at K o ≡ Some y → is_heavy_class p y.class ≡ true → OwesOrHolds p K o y → TakesAt q o → TakesAt r o → q ≡ r
  not_twice q r o y at heavy owes (i, q_is, x, x_at, x_owns, x_heavy, x_root) (i', r_is, z, z_at, z_owns, z_heavy, z_root) = by (lt_or i i')
    where
      found : IsCarried h o y
      found = was (operand_of l s.action (i + 1)) o y x_root (numbered h links (operand_of l s.action (i + 1)) o x_root (operand_in_range h l in' s.action (i + 1))) at

      never : (m n : ℕ) (u w : ParamSig) → m < n → slice_get next.method.sig.params.items m ≡ Some u → slice_get next.method.sig.params.items n ≡ Some w → u.owning ≡ true → w.owning ≡ true
          → not (is_empty (must_of_optional p (Some u.vtype))) ≡ true → not (is_empty (must_of_optional p (Some w.vtype))) ≡ true → root_of h (operand_of l s.action (m + 1)) ≡ Some o → root_of h (operand_of l s.action (n + 1)) ≡ Some o → ⊥
      never m n u w less u_at w_at u_owns w_owns u_heavy w_heavy u_root w_root =
          two_operands p ac h fr st old frs next.index s next.here row covered o found.0 found.1 (ap (is_heavy_class p) (sym found.2) ∙ heavy) (bore o found.0 y found.1 found.3 owes) next.method m n u w less (same_callee ∙ next.named_at) u_at w_at u_owns w_owns
          u_heavy w_heavy u_root w_root

      by : (i < i') ⊎ ((i' < i) ⊎ (i ≡ i')) → q ≡ r
      by (inl less) = absurd (never i i' x z less x_at z_at x_owns z_owns x_heavy z_heavy x_root z_root)
      by (inr (inl less)) = absurd (never i' i z x less z_at x_at z_owns x_owns z_heavy x_heavy z_root x_root)
      by (inr (inr same)) = q_is ∙ ap places.Var same ∙ sym r_is

  -- what a parameter takes is the callee's
  taken_owner : (q : Place) (o : ℕ) (y : Object) → object_at K o ≡ Some y → is_heavy_class p y.class ≡ true → OwesOrHolds p K o y → TakesAt q o → y.owner ≡ owners.Frame (length stack + 1)
  taken_owner q o y at heavy owes (i, q_is, x, x_at, x_owns, x_heavy, x_root) =
      begun_given p l s.action (method_at p named) j h links i x o found.0 y (ap (λ (m : Option Method). slice_get (params_in m) i) next.named_at ∙ x_at) x_owns
      (ap (λ (k : ℕ). root_of h (operand_of l s.action k)) (let same : 1 + i ≡ i + 1 = omega arith in same) ∙ x_root) found.1 may at ∙ ap owners.Frame position
    where
      found : IsCarried h o y
      found = was (operand_of l s.action (i + 1)) o y x_root (numbered h links (operand_of l s.action (i + 1)) o x_root (operand_in_range h l in' s.action (i + 1))) at

      may : may_move p x.vtype found.0 ≡ true
      may = operand_may_move p ac h fr st old frs next.index s next.here row covered o found.0 found.1 (ap (is_heavy_class p) (sym found.2) ∙ heavy) (bore o found.0 y found.1 found.3 owes) next.method i x (same_callee ∙ next.named_at) x_at x_owns x_root x_heavy

  -- so two such places are one
  one_place : (q r : Place) (o : ℕ) (y : Object) (f f' : Fact) → object_at K o ≡ Some y → is_heavy_class p y.class ≡ true → OwesOrHolds p K o y → TakesAt q o ⊎ IsInFieldAt p q y f → TakesAt r o ⊎ IsInFieldAt p r y f' → q ≡ r
  one_place q r o y f f' at heavy owes (inl t) (inl u) = not_twice q r o y at heavy owes t u
  one_place q r o y f f' at heavy owes (inl t) (inr (n, r_is, g, number, w, owns, mode)) = absurd (let never : owners.Frame (length stack + 1) ≡ owners.Field w g = sym (taken_owner q o y at heavy owes t) ∙ owns in cc)
  one_place q r o y f f' at heavy owes (inr (n, q_is, g, number, w, owns, mode)) (inl u) = absurd (let never : owners.Frame (length stack + 1) ≡ owners.Field w g = sym (taken_owner r o y at heavy owes u) ∙ owns in cc)
  one_place q r o y f f' at heavy owes (inr (n, q_is, g, number, w, owns, mode)) (inr (n', r_is, g', number', w', owns', mode')) =
      let same : g ≡ g' = (let both : owners.Field w g ≡ owners.Field w' g' = sym owns ∙ owns' in cc) in
      q_is ∙ ap places.Field (sym number ∙ ap (field_number p) same ∙ number') ∙ sym r_is

  callee_covered : IsCovered p K gives_none renews_none begun_old stack begun_frame
  callee_covered q o y small' keeps' root at heavy owes = by (placed q o y small' root at heavy owes)
    where
      its_owner : (f : Fact) → is_own f.mode ≡ true → TakesAt q o ⊎ IsInFieldAt p q y f → y.owner ≡ owners.Frame (length stack + 1)
      its_owner f own (inl t) = taken_owner q o y at heavy owes t
      its_owner f own (inr (n, q_is, g, number, w, owns, mode)) = absurd (true≢false (sym own ∙ mode))

      by : Covered q o y → IsKeyed p K false false begun_old stack begun_frame q o y
      by (inr u) = unowned u
      by (inl (c, here', owning, takes)) = owned c here' (record {
        owning = owning;
        owner = λ mine own'. its_owner c.fact own' takes;
        others = λ r small'' kept root'. elim (placed r o y small'' root' at heavy owes) [
          | inl d ↦ inl (subst (λ (u : Place). has c.fact.places u ≡ true) (one_place q r o y c.fact d.0.fact at heavy owes takes d.3) here')
          | inr u ↦ inr u
        ];
      })

  started_linked : LinkedWere h K
  started_linked = start_linked p l s.action (method_at p named) j h links

  -- what fields hold they own
  started_owns : FieldsOwn p h → FieldsOwn p K
  started_owns = fields_own_by p None stack (length frs + 1) h K links ranges have.unfinished (but_texts p h K (start_keeps p l s.action (method_at p named) j h links)) (start_carries p l s.action (method_at p named) j h links) holders roots goes started_unfinished

  caller_keeps : KeepsOwners p h K (is_given p h fr) frs fr
  caller_keeps = record {
    own = λ q o x y small' part root before now done heavy spared mine. elim (start_owner p l s.action (method_at p named) j h links o x y before now) [
      | inl same ↦ same ∙ mine
      | inr given ↦ absurd (true≢false (sym (step_gives p h fr next.index s o x.class next.here (moved_given p h l s.action (method_at p named) o x same_callee given.1)) ∙ spared))
    ];
    others = others';
    held = held_here p None stack (length frs + 1) h K ways goes frs fr (omega arith) gifts (λ w none. none.0);
  }

  start_covered : LocalsIn h (fr ∷ frs) → AreWaiting p h old frs → AreCovered p K (begun_frame ∷ fr ∷ frs)
  start_covered all waits = (
    begun_old,
    begun_is_old,
    callee_covered,
    all_wait p h K links roots (start_carries p l s.action (method_at p named) j h links) go_on begun_old (fr ∷ frs) (all_keep p h K (start_keeps p l s.action (method_at p named) j h links) (fr ∷ frs))
        (all_there p h ranges (fr ∷ frs) all) (frames_ready p h K started_unfinished (fr ∷ frs)) (all_keep_gifts p h K roots (fr ∷ frs) all)
        (caller_keeps, owners_kept p None stack (length frs + 1) h K ways goes frs (omega arith) gifts tt (λ w none. none.1))
        (old, stays_old, is, caller_waits p ac forms' h have fr st old frs is news unready next.index s next.here row covered holds targets makes, waits),
    subst (OwnersBelow K) position (start_below p l s.action (method_at p named) j h links (λ o x at. ap (λ (n : ℕ). is_frame_from n x.owner) (let number : j + 1 ≡ length frs + 1 + 1 + 1 = omega (arith, position) in number)
        ∙ below_further h (length frs + 1) low o x at)),
  )

  start_held_before : (rest : List Frame) → LocalsIn h rest → AllHeldBefore p h K rest
  start_held_before rest all = all_held_before p h K roots rest (all_keep p h K (start_keeps p l s.action (method_at p named) j h links) rest) (all_there p h ranges rest all)

  pub started : LocalsIn h (fr ∷ frs) → AreWaiting p h old frs → IsStarted p h K begun_frame fr frs self
  started all waits = record {
    unfinished = started_unfinished;
    this = begun'.this;
    before = start_held_before (fr ∷ frs) all;
    linked = started_linked;
    owns = started_owns owned';
    makers = makers_then p ac forms' h links have ranges fr frs st arrays named runs a next j begun_frame (ap (method_at p) begun'.method ∙ begun'.named) begun'.this goes holders makers;
    covered = start_covered all waits;
  }
