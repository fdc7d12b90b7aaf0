-- A constructor that a call begins, of a class with owning fields, runs on an object whose fields hold nothing: so what they hold they own, and what other constructors have in fields these go on owning.
use Rattle.std.proofs.Common.{◌≡◌, inl, ℕ, ◌+◌, true, false, true≢false, not, Option, Some, None, List, ◌∷◌, length, refl, sym, ap, ◌∙◌, subst}
use Rattle.std.proofs.lemmas.Bool.{and_parts}
use Rattle.program_model.specs.declared.kinds.FieldId.{FieldId}
use Rattle.program_model.specs.declared.kinds.MethodId.{MethodId}
use Rattle.program_model.specs.declared.program.Field.{Field}
use Rattle.program_model.specs.declared.program.Program.{Program}
use Rattle.program_model.specs.Lookups.{field_at, method_at}
use Rattle.ledger_obligations.specs.Bodies.{alias_in, constructs, is_class_of}
use Rattle.ownership_rules.specs.Signatures.{is_present}
use Rattle.java_control.specs.Calls.{called_method}
use Rattle.java_control.specs.Control.{Step}
use Rattle.control_actions.specs.declared.action.Action.{Action}
use Rattle.control_actions.specs.declared.action.Action.TheVariants as actions
use Rattle.value_laws.specs.Paths.{move_of}
use Rattle.value_laws.specs.Accept.{Accept}
use Rattle.ledger_state.specs.Contents.{HeapContents}
use Rattle.ledger_state.specs.Fields.{field_value}
use Rattle.ledger_state.specs.Heaps.{next_number, root_of}
use Rattle.ledger_state.specs.Values.{number_of}
use Rattle.ledger_state.specs.declared.array.ArrayObject.{ArrayObject}
use Rattle.ledger_state.specs.declared.locals.Locals.{Locals}
use Rattle.ledger_state.specs.declared.value.Value.TheVariants as values
use Rattle.ledger_steps.specs.CallSteps.{began_heap, self_begun}
use Rattle.ledger_steps.specs.LedgerCallsCalls.{running}
use Rattle.value_laws.specs.Agreement.{Stands}
use Rattle.value_laws.specs.Chains.{HaveEnds}
use Rattle.value_laws.specs.Choosing.{frame_steps}
use Rattle.value_laws.specs.Configuration.{Frame}
use Rattle.value_laws.specs.FieldContents.{MakerOwns, MakersOwn}
use Rattle.value_laws.specs.Heaps.{HasEarlierLinks}
use Rattle.value_laws.specs.Naming.{IsOfItsKind}
use Rattle.value_laws.specs.Nexts.{IsStartMove}
use Rattle.value_laws.specs.Outcomes.{IsCallRow}
use Rattle.value_laws.specs.PlainForms.{HasPlainForms, IsPlainAction, calls_constructor}
use Rattle.value_laws.specs.Ranges.{FieldsInRange}
use Rattle.value_laws.specs.Renewing.{is_declared_beside}
use Rattle.value_laws.proofs.NamedReached.{names_what_is_there}
use Rattle.value_laws.proofs.RangeValues.{field_in_range}
use Rattle.value_laws.proofs.Ready.{plain_step, step_there}
use Rattle.covering_laws.proofs.FieldOwners.{carried_as_before}
use Rattle.covering_laws.proofs.MakersOwning.{all_made_kept, makers_own_on}
use Rattle.covering_laws.proofs.Owners.{HoldersWere, OwnersGo}
use Rattle.covering_laws.proofs.StartHeaps.{new_holds_nothing, start_carries, start_keeps, start_roots}
use Rattle.covering_laws.proofs.StartWords.{no_number}
use Rattle.covering_laws.proofs.Waiting.{but_texts, value_root}

module _ (p : Program) (ac : Accept p) (forms' : HasPlainForms p) (h : HeapContents) (links : HasEarlierLinks h) (have : HaveEnds h) (ranges : FieldsInRange h) (fr : Frame) (frs : List Frame) (st : Stands p fr) (arrays : List ArrayObject) (named runs : MethodId)
    (a : Action) (next : IsStartMove p h arrays fr.locals (frame_steps p fr) named runs a) (j : ℕ) (begun : Frame) (runs_it : method_at p begun.method ≡ Some next.running) (this : begun.locals.this ≡ self_begun fr.locals next.step.action h) where
  abbrev s : Step
  s = next.step

  abbrev l : Locals
  l = fr.locals

  abbrev K : HeapContents
  K = began_heap p l s.action (method_at p named) j h

  calls' : called_method s.action ≡ Some named
  calls' = ap called_method next.same ∙ next.calls

  -- the object of a `new` has nothing in its fields, and a super constructor runs in no class with owning fields
  pub holds_nothing : constructs (method_at p begun.method) ≡ true → (g : FieldId) → is_declared_beside p begun.method (field_at p g) ≡ true → (w : ℕ) (f : FieldId) (o : ℕ) → begun.locals.this ≡ values.Object w → root_of h (field_value p h w f) ≡ Some o → ⊥
  holds_nothing makes g declared w f o on held = go s.action refl
    where
      self_is : self_begun l s.action h ≡ values.Object w
      self_is = sym this ∙ on

      kind : IsOfItsKind p s.action
      kind = (names_what_is_there p ac.well_formed.valid.typed st.number st.body fr.control next.index (move_of s) st.at st.control (step_there p fr st next.index s next.here)).1

      form : IsPlainAction p s.action
      form = plain_step p ac forms' fr st next.index s next.here

      row : IsCallRow s.action
      row = subst IsCallRow (sym next.same) next.row

      go : (b : Action) → s.action ≡ b → ⊥
      go actions.Skip it = subst IsCallRow it row
      go (actions.New m d c) it =
          let number : next_number h ≡ w = (let both : values.Object (next_number h) ≡ values.Object w = ap (λ (b : Action). self_begun l b h) (sym it) ∙ self_is in (let one : next_number h ≡ w = cc in one)) in
          no_number h (field_value p h w f) o (ap (λ (k : ℕ). number_of (field_value p h k f)) (sym number) ∙ new_holds_nothing p h f ranges) held
      go (actions.Super m d c) it = by (field_at p g) refl declared
        where
          by : (x : Option Field) → field_at p g ≡ x → is_declared_beside p begun.method x ≡ true → ⊥
          by None at is = true≢false (sym is)
          by (Some x) at is =
              let parts = and_parts x.owning (is_class_of x.class (method_at p begun.method)) is in
              let itself : runs ≡ named = next.selected ∙ ap (λ (b : Action). running p h l b named) (sym next.same ∙ it) in
              true≢false (sym (ap (is_class_of x.class) (sym (ap (method_at p) itself) ∙ next.running_at ∙ sym runs_it) ∙ parts.1)
              ∙ forms'.parents st.number next.index (move_of s) named g x st.control (step_there p fr st next.index s next.here) (ap (calls_constructor p) it ∙ (subst (IsPlainAction p) it form).1) calls' at parts.0)
      go (actions.Call m d c t) it =
          true≢false (sym (sym (ap constructs runs_it) ∙ makes) ∙ next.fit.makes ∙ sym (ap constructs next.named_at)
          ∙ ap (λ (z : MethodId). constructs (method_at p z)) (let both : Some named ≡ Some m = sym calls' ∙ ap called_method it in (let one : named ≡ m = cc in one)) ∙ subst (IsOfItsKind p) it kind)
      go b it = subst IsCallRow it row

  begun_owns : MakerOwns p K begun
  begun_owns w f o x made owning heavy found at wide owes = absurd (holds_nothing makes made.field made.declared w f o made.runs before)
    where
      makes : constructs (method_at p begun.method) ≡ true
      makes = (and_parts (constructs (method_at p begun.method)) (not (is_present (alias_in (method_at p begun.method)))) made.alone).0

      before : root_of h (field_value p h w f) ≡ Some o
      before =
          sym (value_root h K (start_roots p l s.action (method_at p named) j h links) (field_value p h w f) (field_in_range p h ranges (values.Object w) f))
          ∙ ap (root_of K) (sym (start_keeps p l s.action (method_at p named) j h links w f owning)) ∙ found

  -- and all of them own what they hold
  pub makers_then : OwnersGo p None (fr ∷ frs) (length frs + 1) h K → HoldersWere p h K → MakersOwn p h (fr ∷ frs) → MakersOwn p K (begun ∷ fr ∷ frs)
  makers_then goes holders makers = (
    begun_owns,
    makers_own_on p h K links ranges have.unfinished (but_texts p h K (start_keeps p l s.action (method_at p named) j h links)) (carried_as_before p h K (start_carries p l s.action (method_at p named) j h links) holders)
        (inl (start_roots p l s.action (method_at p named) j h links)) (fr ∷ frs) (all_made_kept p None (fr ∷ frs) (length frs + 1) h K have.unfinished goes (fr ∷ frs) (λ w others. others)) makers,
  )
