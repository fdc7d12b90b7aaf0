-- A constructor with an aliased argument stores no object that its frame owns.
use Rattle.std.proofs.Common.{◌≡◌, ◌∙◌, ap, refl, sym, subst, arith, ℕ, zero, suc, ◌+◌, Bool, true, false, not, ◌||◌, true≢false, eq-eqb, Option, Some, None, slice_get}
use Rattle.std.proofs.lemmas.Bool.{and_from, or_left, or_parts}
use Rattle.rlc_base.proofs.SetLaws.{within_trans}
use Rattle.program_model.specs.declared.kinds.BodyId.{BodyId}
use Rattle.program_model.specs.declared.kinds.FieldId.{FieldId}
use Rattle.program_model.specs.declared.kinds.MethodId.{MethodId}
use Rattle.program_model.specs.declared.program.Method.{Method}
use Rattle.program_model.specs.declared.program.ParamSig.{ParamSig}
use Rattle.program_model.specs.declared.program.Program.{Program}
use Rattle.program_model.specs.Lookups.{method_at}
use Rattle.content_laws.specs.AliasCases.{calls_alias, gives_exception, has_bad_alias_form, has_owning_alias, has_unequal_sets, is_half_marked}
use Rattle.ledger_obligations.specs.Bodies.{alias_in, alias_position, constructs, is_constructor}
use Rattle.ledger_obligations.specs.MustCallSets.{is_empty, is_heavy_class, must_of, no_names}
use Rattle.ownership_rules.specs.Signatures.{is_owning_at, is_present, owning_in}
use Rattle.java_control.specs.Control.{Step}
use Rattle.java_control.specs.Owned.{field_number, place_of_field}
use Rattle.control_actions.specs.declared.action.Action.{Action}
use Rattle.control_actions.specs.declared.action.Action.TheVariants as actions
use Rattle.control_actions.specs.declared.fact.Fact.{Fact}
use Rattle.control_actions.specs.declared.place.Place.TheVariants as places
use Rattle.ownership_rules.specs.Facts.{PlaceSet, has, is_origin_at, is_own}
use Rattle.ownership_rules.specs.SmallActions.{IsSmallAction}
use Rattle.content_laws.specs.PlaceRows.{copied}
use Rattle.content_laws.specs.Flow.{flow}
use Rattle.content_laws.specs.Paths.{Reach, move_of, relation_of}
use Rattle.content_laws.specs.Accept.{Accept}
use Rattle.ledger_state.specs.Contents.{HeapContents}
use Rattle.ledger_state.specs.declared.object.Object.{Object}
use Rattle.ledger_obligations.specs.Obligations.{is_unmet}
use Rattle.content_laws.specs.Configuration.{Frame}
use Rattle.content_laws.specs.Choosing.{body_id, frame_steps}
use Rattle.content_laws.specs.Agreement.{Stands, Tracks}
use Rattle.content_laws.specs.Outcomes.{After}
use Rattle.content_laws.proofs.AliasConducts.{no_refusal}
use Rattle.content_laws.proofs.SetLaws.{has_copied}
use Rattle.content_laws.specs.FactGoing.{ArePlaces, StoresAs, left, taken}
use Rattle.content_laws.proofs.CoveringStoring.{stores}
use Rattle.content_laws.proofs.KeptFacts.{own_position, this_stays}
use Rattle.content_laws.proofs.Following.{followed, method_here, same_body, small_step, step_there}
use Rattle.content_laws.proofs.Unmet.{nothing_to_call}
use Rattle.soundness_laws.proofs.OwnedFacts.{never_own}

makes_some : (m : Option Method) → constructs m ≡ true → (x : Method) × (m ≡ Some x)
makes_some None none = absurd (true≢false (sym none))
makes_some (Some x) is = (x, refl)

not_true : (b : Bool) → (b ≡ true → ⊥) → b ≡ false
not_true true never = absurd (never refl)
not_true false never = refl

-- the aliased argument is not owning
alias_unowned : (p : Program) → Accept p → (m : MethodId) (x : Method) (k : ℕ) → method_at p m ≡ Some x → x.sig.alias ≡ Some k → is_owning_at x.sig k ≡ false
alias_unowned p ac m x k at alias =
    let form = or_parts (has_bad_alias_form p x) (gives_exception p x) (no_refusal p ac.well_formed m x at k alias) in
    let three = or_parts (is_half_marked x || has_unequal_sets p x x.sig.alias || has_owning_alias x x.sig.alias) (calls_alias p x) form.0 in
    let two = or_parts (is_half_marked x || has_unequal_sets p x x.sig.alias) (has_owning_alias x x.sig.alias) three.0 in
    sym (ap (has_owning_alias x) alias) ∙ two.1

module _ (p : Program) (ac : Accept p) (h : HeapContents) (fr : Frame) (st : Stands p fr) (i d : ℕ) (s : Step) (f : FieldId) (n : ℕ) (x : Object) (v : ℕ) (here : slice_get (frame_steps p fr) i ≡ Some s)
    (is : s.action ≡ actions.PutOwn f d) (makes : constructs (method_at p fr.method) ≡ true) (alias : alias_position p st.number ≡ Some v) (t : Tracks p h fr n x) (unmet : is_unmet x ≡ true)
    (has' : has t.fact.places (places.Temp d) ≡ true) where
  run : (m : Method) × (method_at p fr.method ≡ Some m)
  run = makes_some (method_at p fr.method) makes

  reached : Reach p st.number (relation_of p st.number) t.origin fr.control t.fact
  reached = subst (λ (b : BodyId). Reach p b (relation_of p b) t.origin fr.control t.fact) (same_body t.body st.number (body_id p fr.method) t.id st.id) t.reached

  room : IsSmallAction p (actions.PutOwn f d)
  room = subst (IsSmallAction p) is (small_step p ac fr st i s here)

  abbrev now : PlaceSet
  now = copied t.fact.places (place_of_field p f) (places.Temp d)

  joins : has now (place_of_field p f) ≡ true
  joins = has_copied t.fact.places (place_of_field p f) (places.Temp d) (place_of_field p f) room.1 room.1 ∙ rw (eq-eqb (field_number p f) (field_number p f) refl) has'

  abbrev Goes : Fact → Type 0
  Goes g = ArePlaces g.places now × StoresAs p st.number t.origin f d t.fact g

  goes : (g : Fact) × Reach p st.number (relation_of p st.number) t.origin s.to g × Goes g
  goes = followed p ac st.number t.origin i (move_of s) t.fact Goes reached (step_there p fr st i s here)
      (subst (λ (a : Action). After Goes (flow p st.number t.origin a s.edge t.fact)) (sym is) (stores p st.number t.origin f d s.edge t.fact (place_of_field p f) joins))

  -- the fact is of a class with an obligation
  heavy : is_heavy_class p t.origin.class ≡ true
  heavy = ap not (not_true (is_empty (must_of p t.origin.class)) (λ light.
      nothing_to_call x unmet (within_trans x.must (must_of p x.class) no_names t.follows.bounded (within_trans (must_of p x.class) (must_of p t.origin.class) no_names t.follows.class light))))

  -- and in no field
  absent : has t.fact.places (place_of_field p f) ≡ false
  absent = not_true (has t.fact.places (place_of_field p f)) (λ there. true≢false (sym (t.follows.places (place_of_field p f) room.1 there).0))

  of : method_at p st.body.method ≡ Some run.0
  of = ap (method_at p) st.method ∙ run.1

  -- it is not that of the argument: neither a parameter that is not owning, nor `this`, which is in no fact of an object that the frame owns
  unowned_argument : is_origin_at t.origin.kind (alias_position p st.number) ≡ true → ⊥
  unowned_argument at = by v alias
    where
      by : (k : ℕ) → alias_position p st.number ≡ Some k → ⊥
      by zero same = true≢false (sym (t.follows.places places.This tt (this_stays p ac st.number st.body run.0 st.at of t.origin fr.control t.fact reached (ap (is_origin_at t.origin.kind) (sym same) ∙ at))).0)
      by (suc k) same =
          let named : (run.0).sig.alias ≡ Some (suc k) = ap alias_in (sym run.1) ∙ ap alias_in (sym (method_here p fr st)) ∙ same in
          let plain : (q : ParamSig) → slice_get (run.0).sig.params.items k ≡ Some q → q.owning ≡ false = (λ q there. ap owning_in (sym there) ∙ alias_unowned p ac fr.method run.0 (suc k) run.1 named) in
          let kind = own_position k t.origin.kind (ap (is_origin_at t.origin.kind) (ap Some (let next : k + 1 ≡ suc k = omega arith in next) ∙ sym same) ∙ at) in
          true≢false (sym (ap is_own t.follows.own) ∙ never_own p run.0 k plain st.number st.body st.at of t.origin fr.control t.fact reached kind)

  pub owned_not_stored : ⊥
  owned_not_stored = by goes
    where
      by : (g : Fact) × Reach p st.number (relation_of p st.number) t.origin s.to g × Goes g → ⊥
      by (g, reach, (same, taken reset called full k)) = unowned_argument (k.alias (and_from (is_constructor p st.number) (is_present (alias_position p st.number)) (ap constructs (method_here p fr st) ∙ makes) (ap is_present alias)))
      by (g, reach, (same, left reset called full l)) = true≢false (sym (or_left (is_heavy_class p t.origin.class) _ heavy) ∙ l.light has' absent)
