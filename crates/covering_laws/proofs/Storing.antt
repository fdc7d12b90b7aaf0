-- A store into an owning field of `this`: what the field held is met.
pub use Rattle.value_laws.proofs.Storing.{stores}
use Rattle.std.proofs.Common.{◌≡◌, ◌⊎◌, inl, inr, ℕ, Bool, true, false, not, ◌&&◌, Option, Some, None, List, slice_get, refl, sym, ap, ◌∙◌, subst, true≢false, if◌then◌else◌}
use Rattle.std.specs.FinSet as set
use Rattle.std.proofs.lemmas.Bool.{and_from, and_parts, not-true}
use Rattle.rlc_base.proofs.SetLaws.{within_trans}
use Rattle.program_model.specs.declared.kinds.BodyId.{BodyId}
use Rattle.program_model.specs.declared.kinds.FieldId.{FieldId}
use Rattle.program_model.specs.declared.program.Program.{Program}
use Rattle.program_model.specs.Lookups.{method_at}
use Rattle.ledger_obligations.specs.Bodies.{alias_in, alias_position, constructs, has_field_place, is_alias_constructor, is_constructor}
use Rattle.ledger_obligations.specs.MustCallSets.{is_heavy_class, must_of}
use Rattle.java_control.specs.Calls.{is_reset_of_this}
use Rattle.java_control.specs.Control.{Step}
use Rattle.ownership_rules.specs.Signatures.{is_present}
use Rattle.java_control.specs.Owned.{place_of_field}
use Rattle.control_actions.specs.declared.action.Action.{Action}
use Rattle.control_actions.specs.declared.action.Action.TheVariants as actions
use Rattle.control_actions.specs.declared.fact.Fact.{Fact}
use Rattle.control_actions.specs.declared.fact.Mode.TheVariants as modes
use Rattle.control_actions.specs.declared.fact.Origin.{Origin}
use Rattle.control_actions.specs.declared.fact.Outcome.TheVariants.{Fault}
use Rattle.control_actions.specs.declared.fact.Rule.TheVariants as rules
use Rattle.control_actions.specs.declared.place.Place.{Place}
use Rattle.control_actions.specs.declared.place.Place.TheVariants as places
use Rattle.ownership_rules.specs.Facts.{PlaceSet, has, is_held, is_met, need}
use Rattle.ownership_rules.specs.SmallActions.{IsSmallAction}
use Rattle.value_laws.specs.PlaceRows.{copied}
use Rattle.value_laws.specs.OwningFieldsStores.{lacks_reset, object_stored, stored, stored_over}
use Rattle.value_laws.specs.Flow.{flow}
use Rattle.value_laws.specs.Paths.{Reach, move_of, relation_of}
use Rattle.value_laws.specs.Accept.{Accept}
use Rattle.ledger_state.specs.Contents.{HeapContents}
use Rattle.ledger_state.specs.Heaps.{root_of}
use Rattle.ledger_state.specs.Locals.{temp_value}
use Rattle.ledger_state.specs.declared.object.Object.{Object}
use Rattle.ledger_obligations.specs.Obligations.{is_unmet}
use Rattle.value_laws.specs.Configuration.{Frame}
use Rattle.value_laws.specs.Choosing.{body_id, frame_steps}
use Rattle.value_laws.specs.Agreement.{Stands}
use Rattle.value_laws.specs.PlainForms.{HasPlainForms, StoresPlainly}
use Rattle.value_laws.specs.Outcomes.{After, IsFault}
use Rattle.value_laws.specs.Renewing.{answers_for_fields, lends_this, reopens}
use Rattle.value_laws.specs.PlaceFacts.{Covers, IsCovered, IsTrueOf, gives_none, is_field_place, is_idle, is_lent_place, renews_none}
use Rattle.value_laws.specs.FactGoing.{ArePlaces, StoresAs}
use Rattle.covering_laws.specs.Covering.{HoldsHeavy}
use Rattle.covering_laws.proofs.Following.{breaks_nothing, followed, method_here, same_body, small_step, step_there}
use Rattle.covering_laws.proofs.HeavyFields.{HasPlace, alone_answers, covers_field, has_place_here, heavy_here, held_claims, makes_alone_by, reopening_answers}
use Rattle.covering_laws.proofs.SaidFacts.{lends_by_step, said_by}

-- what is met is not unmet
pub met_not_unmet : (p : Program) (x : Object) (o : Origin) (f : Fact) → IsTrueOf p x o f → is_met o f ≡ true → is_unmet x ≡ false
met_not_unmet p x o f truth met = go (is_unmet x) refl
  where
    within : set.is_subset x.must x.called ≡ true
    within = within_trans x.must (need o f) x.called truth.need (within_trans (need o f) f.called x.called met truth.called)

    go : (b : Bool) → is_unmet x ≡ b → is_unmet x ≡ false
    go true unmet = absurd (true≢false (sym within ∙ not-true (set.is_subset x.must x.called) (and_parts x.finished (not (set.is_subset x.must x.called)) unmet).1))
    go false is = is

-- another value stored over what a field owns and owes breaks a rule
over_faults : (p : Program) (b : BodyId) (o : Origin) (x : FieldId) (d : ℕ) (f : Fact) → f.mode ≡ modes.Held → is_met o f ≡ false → has f.places (places.Temp d) ≡ false → has f.places (place_of_field p x) ≡ true
    → IsFault (stored p b o x d f)
over_faults p b o x d f held unmet out there = go (lacks_reset p b x f)
  where
    go : (z : Bool) → IsFault (if z then Fault rules.ResetMissing (must_of p o.class) else (if has f.places (places.Temp d) then object_stored p b o x f else stored_over p o x f))
    go true = tt
    go false = rw (out, there, held, unmet) tt

module _ (p : Program) (ac : Accept p) (forms : HasPlainForms p) (h : HeapContents) (old : ℕ → Bool) (frs : List Frame) (fr : Frame) (st : Stands p fr) (covered : IsCovered p h gives_none renews_none old frs fr)
    (i d : ℕ) (s : Step) (f : FieldId) (here : slice_get (frame_steps p fr) i ≡ Some s) (is : s.action ≡ actions.PutOwn f d) (plainly : StoresPlainly p (method_at p fr.method) f) where
  form : has_field_place p st.number f ≡ true
  form = forms.stores st.number i (move_of s) f d st.control (step_there p fr st i s here) is

  pub there : HasPlace p fr f
  there = has_place_here p ac fr st f form

  -- the method makes an object, or creates the obligation of `this` anew
  pub storing : (constructs (method_at p fr.method) ≡ true) ⊎ (reopens (method_at p fr.method) ≡ true)
  storing = elim plainly [ inl makes ↦ inl makes | inr opens ↦ inr opens.0 ]

  -- so something is said of what fields hold
  pub said : (g : Fact) → is_idle p frs fr g ≡ false
  said g = elim storing [ inl makes ↦ said_by p frs fr g (inr (inl makes)) | inr opens ↦ said_by p frs fr g (inr (inr (inl opens))) ]

  -- and `this` is not lent here
  pub keeps : lends_this p fr ≡ false
  keeps = lends_by_step p fr st i s here (ap (is_reset_of_this p) is)

  pub none_lent : (q : Place) → is_lent_place p fr q ≡ false
  none_lent q = ap (λ (b : Bool). is_field_place q && b) keeps ∙ none (is_field_place q)
    where
      none : (b : Bool) → (b && false) ≡ false
      none true = refl
      none false = refl

  pub held_here : (g : Fact) → (is_held g.mode && lends_this p fr) ≡ false
  held_here g = ap (λ (b : Bool). is_held g.mode && b) keeps ∙ none (is_held g.mode)
    where
      none : (b : Bool) → (b && false) ≡ false
      none true = refl
      none false = refl

  pub small : IsSmallAction p (actions.PutOwn f d)
  small = subst (IsSmallAction p) is (small_step p ac fr st i s here)

  -- but in a constructor with an aliased argument, the frame answers for the fields of `this`
  pub answers_here : is_alias_constructor p st.number ≡ false → answers_for_fields (method_at p fr.method) ≡ true
  answers_here plain = elim plainly [
    | inl makes ↦ alone_answers (method_at p fr.method) (makes_alone_by (method_at p fr.method) makes
        (ap alias_in (sym (method_here p fr st)) ∙ no_alias (ap constructs (method_here p fr st) ∙ makes) (alias_position p st.number) refl))
    | inr opens ↦ reopening_answers (method_at p fr.method) opens.0
  ]
    where
      no_alias : is_constructor p st.number ≡ true → (a : Option ℕ) → alias_position p st.number ≡ a → alias_position p st.number ≡ None
      no_alias makes None none = none
      no_alias makes (Some k) some = absurd (true≢false (sym (and_from (is_constructor p st.number) (is_present (alias_position p st.number)) makes (ap (λ (a : Option ℕ). is_present a) some)) ∙ plain))

  -- what a fact of a place becomes
  module _ (o : ℕ) (x : Object) (c : Covers p h false false old frs fr o x) where
    reached : Reach p st.number (relation_of p st.number) c.origin fr.control c.fact
    reached = subst (λ (b : BodyId). Reach p b (relation_of p b) c.origin fr.control c.fact) (same_body c.body st.number (body_id p fr.method) c.id st.id) c.reached

    abbrev pub now : PlaceSet
    now = copied c.fact.places (place_of_field p f) (places.Temp d)

    abbrev pub Goes : Fact → Type 0
    Goes g = ArePlaces g.places now × StoresAs p st.number c.origin f d c.fact g

    pub goes : (z : Place) → has now z ≡ true → (g : Fact) × Reach p st.number (relation_of p st.number) c.origin s.to g × Goes g
    goes z some = followed p ac st.number c.origin i (move_of s) c.fact Goes reached (step_there p fr st i s here)
        (subst (λ (a : Action). After Goes (flow p st.number c.origin a s.edge c.fact)) (sym is) (stores p st.number c.origin f d s.edge c.fact z some))

  -- the fact of what the field holds, where t(d) holds another object, is met
  pub displaced_is_met : is_alias_constructor p st.number ≡ false → (w o : ℕ) (x : Object) → HoldsHeavy p h fr w f o x → (root_of h (temp_value fr.locals d) ≡ Some o → ⊥) → is_unmet x ≡ false
  displaced_is_met plain w o x holds apart = by (is_met c.origin c.fact) refl
    where
      found : (c : Covers p h false false old frs fr o x) × (has c.fact.places (place_of_field p f) ≡ true)
      found = covers_field p h fr f there old frs covered keeps w o x holds

      c : Covers p h false false old frs fr o x
      c = found.0

      owned : (c.fact.mode ≡ modes.Held) × (is_heavy_class p c.origin.class ≡ true)
      owned = c.held _ there.small found.1 (heavy_here p h fr f there holds.heavy)

      out : (b : Bool) → has c.fact.places (places.Temp d) ≡ b → has c.fact.places (places.Temp d) ≡ false
      out true some = absurd (apart (c.places (said c.fact) (places.Temp d) small.0 refl some))
      out false none = none

      by : (b : Bool) → is_met c.origin c.fact ≡ b → is_unmet x ≡ false
      by true met = met_not_unmet p x c.origin c.fact (c.true' (held_claims p (method_at p fr.method) c.origin c.fact (answers_here plain) owned.0 owned.1) refl (held_here c.fact)) met
      by false unmet = absurd (breaks_nothing p ac st.number c.origin i (move_of s) c.fact (reached o x c) (step_there p fr st i s here)
          (subst (λ (a : Action). IsFault (flow p st.number c.origin a s.edge c.fact)) (sym is)
          (over_faults p st.number c.origin f d c.fact owned.0 unmet (out (has c.fact.places (places.Temp d)) refl) found.1)))
