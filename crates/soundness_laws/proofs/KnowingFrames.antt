-- What a frame knows of its arguments goes with it over a step of its own, and over one of a call that has ended.
use Rattle.std.proofs.Common.{◌≡◌, ◌⊎◌, inl, inr, arith, ℕ, zero, suc, ◌+◌, Bool, true, false, not, ◌||◌, true≢false, Option, Some, None, slice_get, eqb-true, refl, sym, ap, ◌∙◌, subst}
use Rattle.std.proofs.lemmas.Bool.{and_parts}
use Rattle.program_model.specs.declared.kinds.BodyId.{BodyId}
use Rattle.program_model.specs.declared.kinds.FieldId.{FieldId}
use Rattle.program_model.specs.declared.program.Method.{Method}
use Rattle.program_model.specs.declared.program.Program.{Program}
use Rattle.program_model.specs.Lookups.{method_at}
use Rattle.program_model.specs.Overrides.{is_library}
use Rattle.program_model.specs.Validity.{IfPosition}
use Rattle.ledger_obligations.specs.Bodies.{is_constructor_kind}
use Rattle.java_control.specs.Control.{Step}
use Rattle.java_control.specs.Owned.{place_of_field}
use Rattle.java_control.specs.PlaceNumbers.{IsSmall}
use Rattle.java_control.specs.Sources.{source}
use Rattle.control_actions.specs.declared.action.Action.{Action}
use Rattle.control_actions.specs.declared.action.Action.TheVariants as actions
use Rattle.control_actions.specs.declared.action.Completion.{Completion}
use Rattle.control_actions.specs.declared.action.Edge.{Edge}
use Rattle.control_actions.specs.declared.action.Edge.TheVariants as edges
use Rattle.control_actions.specs.declared.fact.Fact.{Fact}
use Rattle.control_actions.specs.declared.fact.OriginKind.{OriginKind}
use Rattle.control_actions.specs.declared.fact.OriginKind.TheVariants as kinds
use Rattle.control_actions.specs.declared.fact.Outcome.TheVariants.{Next}
use Rattle.control_actions.specs.declared.place.Place.{Place}
use Rattle.control_actions.specs.declared.place.Place.TheVariants as places
use Rattle.ownership_rules.specs.Facts.{PlaceSet, has, is_origin_at}
use Rattle.ownership_rules.specs.Signatures.{is_position}
use Rattle.ownership_rules.specs.SmallActions.{IsSmallAction}
use Rattle.ledger_state.specs.Contents.{HeapContents}
use Rattle.ledger_state.specs.Heaps.{root, root_of}
use Rattle.ledger_state.specs.Values.{is_null}
use Rattle.ledger_state.specs.declared.locals.Locals.{Locals}
use Rattle.ledger_state.specs.declared.value.Value.{Value}
use Rattle.content_laws.specs.Accept.{Accept}
use Rattle.content_laws.specs.Agreement.{Stands}
use Rattle.content_laws.specs.Aliases.{gives_alias}
use Rattle.content_laws.specs.Choosing.{body_id, frame_steps}
use Rattle.content_laws.specs.Configuration.{Frame}
use Rattle.content_laws.specs.Flow.{flow}
use Rattle.content_laws.specs.Frames.{frame_after, is_made, made_place}
use Rattle.content_laws.specs.Outcomes.{IsCallRow, IsNotNull, IsPlainRow}
use Rattle.content_laws.specs.Paths.{Reach, flowed, move_of, relation_of}
use Rattle.content_laws.specs.PlacePlaces.{IsWay, SetsLocals, has_source, is_local, takes_alias}
use Rattle.content_laws.specs.PlaceRows.{places_after}
use Rattle.content_laws.specs.Places.{place_value}
use Rattle.content_laws.specs.PlainForms.{HasPlainForms}
use Rattle.content_laws.specs.Positions.{is_lasting, is_lasting_in}
use Rattle.content_laws.specs.Steps.{IsTrueTest}
use Rattle.content_laws.proofs.AliasFacts.{aliased_is_spoken}
use Rattle.content_laws.proofs.Bodies.{running_method}
use Rattle.content_laws.proofs.Carried.{Ready}
use Rattle.content_laws.proofs.FactOrigins.{this_own}
use Rattle.content_laws.proofs.Following.{same_body}
use Rattle.content_laws.proofs.FrameKept.{parameter_stays}
use Rattle.content_laws.proofs.LastingFacts.{lasting_goes_on, lasting_in_no_field}
use Rattle.content_laws.proofs.PlaceLaws.{alias_stands, no_other_place_joins, places_come_from_sources, source_is_small, value_comes_from_source}
use Rattle.content_laws.proofs.Ready.{call_sets, plain_step, ready, row_sets, step_there}
use Rattle.content_laws.proofs.SetLaws.{has_copied}
use Rattle.soundness_laws.specs.Knowing.{HoldsObject, IsKnown, IsObject, KnowsArguments, argument_of}

-- ---- places

-- each of these places holds an object
abbrev pub HoldObjects : Locals → PlaceSet → Type 0
HoldObjects l held = (q : Place) → IsSmall q → has held q ≡ true → HoldsObject l q

holds_value : (p : Program) (h : HeapContents) (fr : Frame) (q : Place) → HoldsObject fr.locals q → IsObject (place_value p h fr.method fr.locals q)
holds_value p h fr (places.Var v) holds = holds
holds_value p h fr (places.Temp d) holds = holds
holds_value p h fr places.This holds = holds
holds_value p h fr (places.Field k) holds = absurd holds
holds_value p h fr places.Super holds = absurd holds

-- a test that goes by its null edge tests no such place
not_null : (p : Program) (l : Locals) (f : Fact) (a : Action) (e : Edge) → IsSmallAction p a → HoldObjects l f.places → IsTrueTest l a e → IsNotNull f a e
not_null p l f actions.Skip e small hold test = tt
not_null p l f (actions.Test d) edges.Null small hold test = go (has f.places (places.Temp d)) refl
  where
    go : (b : Bool) → has f.places (places.Temp d) ≡ b → has f.places (places.Temp d) ≡ false
    go false none = none
    go true one = let object = hold (places.Temp d) small one in absurd (true≢false (sym test ∙ ap is_null object.1))
not_null p l f (actions.Test d) e small hold test = tt
not_null p l f a e small hold test = tt

-- ---- positions

-- a fact of `this` is of no other position
position_of_this : (kind : OriginKind) (n : ℕ) → is_origin_at kind (Some 0) ≡ true → is_origin_at kind (Some n) ≡ true → 0 ≡ n
position_of_this (kinds.Param x) n this at = absurd (let same : x + 1 ≡ 0 = eqb-true (x + 1) 0 this in omega (arith, same))
position_of_this kinds.ThisRef n this at = eqb-true 0 n at
position_of_this kind n this at = absurd (true≢false (sym this))

named_position : (a : Option ℕ) (n : ℕ) → is_position a n ≡ true → a ≡ Some n
named_position None n is = absurd (true≢false (sym is))
named_position (Some k) n is = ap Some (eqb-true k n is)

-- a parameter whose fact lasts is the aliased one, of a method that is no constructor
pub lasting_parameter : (m : Method) (v : ℕ) → is_lasting_in m (suc v) ≡ true → (is_constructor_kind m.kind ≡ false) × (m.sig.alias ≡ Some (suc v))
lasting_parameter m v lasting =
    let parts = and_parts (not (is_constructor_kind m.kind)) (is_position m.sig.alias (suc v)) lasting in
    (not-true (is_constructor_kind m.kind) parts.0, named_position m.sig.alias (suc v) parts.1)
  where
    not-true : (b : Bool) → not b ≡ true → b ≡ false
    not-true true is = sym is
    not-true false is = refl

-- ---- a step

-- the step calls, or calls nothing and stores into no owning field, or stores into one
abbrev pub IsGoing : Action → Type 0
IsGoing a = IsCallRow a ⊎ (IsPlainRow a ⊎ ((f : FieldId) × (d : ℕ) × (a ≡ actions.PutOwn f d)))

goes_on : (a : Action) → IsGoing a → (c : Completion) → a ≡ actions.End c → ⊥
goes_on a (inl row) c is = subst IsCallRow is row
goes_on a (inr (inl row)) c is = subst IsPlainRow is row
goes_on a (inr (inr (f, d, store))) c is = let never : actions.PutOwn f d ≡ actions.End c = sym store ∙ is in cc

module _ (p : Program) (ac : Accept p) (forms : HasPlainForms p) (h : HeapContents) (fr : Frame) (st : Stands p fr) (i : ℕ) (s : Step) (here : slice_get (frame_steps p fr) i ≡ Some s) (v : Value) (going : IsGoing s.action)
    (way : IsWay s.action s.edge) (test : IsTrueTest fr.locals s.action s.edge) where
  abbrev after : Frame
  after = frame_after p h fr s v

  r : Ready p fr.method fr.locals st.number st.body s.action s.edge
  r = ready p ac forms fr st i s here way

  run : (x : Method) × (method_at p fr.method ≡ Some x) × (is_library p x.class ≡ false)
  run = running_method p ac fr st

  of : method_at p st.body.method ≡ Some run.0
  of = ap (method_at p) st.method ∙ run.1

  module _ (held : PlaceSet) (hold : HoldObjects fr.locals held) (gives : gives_alias p s.action s.edge held ≡ true → IsObject v) where
    -- a variable or a temp that is among the places after the step
    local_holds : (q : Place) → IsSmall q → is_local q ≡ true → has (places_after p st.number s.action s.edge held) q ≡ true → IsObject (place_value p h fr.method after.locals q)
    local_holds q small local is =
        taken (takes_alias p s.action s.edge held q) refl (sym (places_come_from_sources p st.number st.body s.action s.edge held q st.at r.small small local way) ∙ is)
      where
        from : (z : Option Place) → source p st.body s.action s.edge q ≡ z → has_source held z ≡ true → IsObject (place_value p h fr.method after.locals q)
        from None e one = absurd (true≢false (sym one))
        from (Some z) e one =
            let small' = source_is_small p st.body s.action s.edge q z r.small small e in
            let object = holds_value p h fr z (hold z small' one) in
            (object.0, value_comes_from_source p h h fr.method st.body fr.locals s.action s.edge v q z (root h object.0) r.method small local r.target e (ap (root_of h) object.1) ∙ object.1)

        taken : (b : Bool) → takes_alias p s.action s.edge held q ≡ b → (b || has_source held (source p st.body s.action s.edge q)) ≡ true → IsObject (place_value p h fr.method after.locals q)
        taken true takes one =
            let object = gives (and_parts (gives_alias p s.action s.edge held) (is_made (made_place s.action) q) takes).0 in
            (object.0, alias_stands p h h fr.method st.body fr.locals s.action s.edge v held q r.method small r.target takes ∙ object.1)
        taken false takes one = from (source p st.body s.action s.edge q) refl one

    -- the part of the super class comes to be none of them
    no_super : has (places_after p st.number s.action s.edge held) places.Super ≡ true → ⊥
    no_super is = go going
      where
        other : SetsLocals s.action → ⊥
        other sets = hold places.Super tt (no_other_place_joins p st.number s.action s.edge held places.Super r.small sets tt refl is)

        go : IsGoing s.action → ⊥
        go (inl row) = other (call_sets s.action row)
        go (inr (inl row)) = other (row_sets p s.action (plain_step p ac forms fr st i s here) row)
        go (inr (inr (f, d, store))) =
            hold places.Super tt (sym (has_copied held (place_of_field p f) (places.Temp d) places.Super (subst (IsSmallAction p) store r.small).1 tt)
            ∙ subst (λ (a : Action). has (places_after p st.number a s.edge held) places.Super ≡ true) store is)

  module _ (n : ℕ) (lasting : is_lasting (method_at p fr.method) n ≡ true) where
    lasting' : is_lasting (Some run.0) n ≡ true
    lasting' = ap (λ (m : Option Method). is_lasting m n) (sym run.1) ∙ lasting

    -- the step leaves the argument where it is
    argument_stays : argument_of after.locals n ≡ argument_of fr.locals n
    argument_stays = go n lasting'
      where
        go : (k : ℕ) → is_lasting (Some run.0) k ≡ true → argument_of after.locals k ≡ argument_of fr.locals k
        go zero last = refl
        go (suc x) last = parameter_stays p ac h fr st i s here v run.0 x run.1 (aliased_is_spoken run.0 x (lasting_parameter run.0 x last).1
            (subst (λ (a : Option ℕ). IfPosition run.0.sig a) (lasting_parameter run.0 x last).1 (ac.well_formed.valid.typed.methods fr.method run.0 run.1).signature.alias))

    known_on : IsObject (argument_of fr.locals n) → (known : IsKnown p fr n) → (gives_alias p s.action s.edge known.fact.places ≡ true → IsObject v) → IsKnown p after n
    known_on argument known gives = record { body = st.number; id = st.id; origin = known.origin; fact = next.0; reached = reached'; at = known.at; objects = objects }
      where
        reached : Reach p st.number (relation_of p st.number) known.origin fr.control known.fact
        reached = subst (λ (b : BodyId). Reach p b (relation_of p b) known.origin fr.control known.fact) (same_body known.body st.number (body_id p fr.method) known.id st.id) known.reached

        next : (g : Fact) × (flow p st.number known.origin s.action s.edge known.fact ≡ Next g) × ((q : Place) → IsSmall q → has g.places q ≡ true → has (places_after p st.number s.action s.edge known.fact.places) q ≡ true)
        next =
            lasting_goes_on p ac st.number st.body run.0 st.at of n lasting' known.origin fr.control known.fact reached known.at i (move_of s) (step_there p fr st i s here) (goes_on s.action going)
            (not_null p fr.locals known.fact s.action s.edge r.small known.objects test)

        reached' : Reach p st.number (relation_of p st.number) known.origin s.to next.0
        reached' = flowed i (move_of s) reached (step_there p fr st i s here) next.1

        objects : (q : Place) → IsSmall q → has next.0.places q ≡ true → HoldsObject after.locals q
        objects (places.Var x) small is = local_holds known.fact.places known.objects gives (places.Var x) small refl (next.2 (places.Var x) small is)
        objects (places.Temp d) small is = local_holds known.fact.places known.objects gives (places.Temp d) small refl (next.2 (places.Temp d) small is)
        objects places.This small is =
            let own = this_own p ac st.number st.body st.at known.origin s.to next.0 reached' is in
            subst (λ (k : ℕ). IsObject (argument_of fr.locals k)) (sym (position_of_this known.origin.kind n own known.at)) argument
        objects (places.Field j) small is = true≢false (sym is ∙ lasting_in_no_field p ac st.number st.body run.0 st.at of n lasting' known.origin s.to next.0 reached' known.at j small)
        objects places.Super small is = no_super known.fact.places known.objects gives (next.2 places.Super small is)

  -- the frame knows its arguments still, where the step gives an object as an alias of one
  pub knows_on : KnowsArguments p fr → ((held : PlaceSet) → HoldObjects fr.locals held → gives_alias p s.action s.edge held ≡ true → IsObject v) → KnowsArguments p after
  knows_on knows gives n lasting argument =
      let before = subst IsObject (argument_stays n lasting) argument in
      let known = knows n lasting before in
      known_on n lasting before known (gives known.fact.places known.objects)
