-- As a frame ends, what its method promises was called on the objects that the caller owns and has lent: on a parameter or on `this`, where the
-- callee's own fact knows the names, as the rule `ensures` asks at the end of a body. And a result that is an alias is the object that the caller has
-- at the aliased position.
use Rattle.std.proofs.Common.{◌≡◌, inl, inr, ℕ, zero, suc, ◌+◌, ◌<◌, Bool, true, false, not, Option, Some, None, List, [], ◌∷◌, length, slice_get, refl, sym, ap, ◌∙◌, subst, true≢false, if◌then◌else◌, arith}
use Rattle.std.specs.Option.{IsSomeAnd}
use Rattle.std.specs.List.{All}
use Rattle.std.specs.FinSet as set
use Rattle.std.proofs.lemmas.Bool.{not-true, or_left}
use Rattle.std.proofs.lemmas.List.Elements.{All-head, All-tail}
use Rattle.rlc_base.proofs.SetLaws.{empty_within, union_within, within_at, within_from, within_self, within_trans}
use Rattle.program_model.specs.declared.kinds.BodyId.{BodyId}
use Rattle.program_model.specs.declared.kinds.ClassId.{ClassId}
use Rattle.program_model.specs.declared.kinds.FieldId.{FieldId}
use Rattle.program_model.specs.declared.kinds.MethodId.{MethodId}
use Rattle.program_model.specs.declared.kinds.Target.{Target}
use Rattle.program_model.specs.declared.kinds.Target.TheVariants as promised
use Rattle.program_model.specs.declared.program.Method.{Method}
use Rattle.program_model.specs.declared.program.ParamSig.{ParamSig}
use Rattle.program_model.specs.declared.program.Program.{Program}
use Rattle.program_model.specs.declared.program.Promise.{Promise}
use Rattle.program_model.specs.Lookups.{method_at}
use Rattle.program_model.specs.Overrides.{is_library}
use Rattle.program_model.specs.Validity.{IsBodyOf, IsPromised, IsValidSig}
use Rattle.ledger_obligations.specs.Assigned.{is_spoken_variable}
use Rattle.ledger_obligations.specs.Bodies.{constructs, method_of, promises_in, throwing_promises_in}
use Rattle.ledger_obligations.specs.MustCallSets.{Names, is_empty, is_heavy_class, must_of, must_of_type, no_names}
use Rattle.ownership_rules.specs.Signatures.{is_at, promised_names, when}
use Rattle.java_control.specs.Calls.{called_method}
use Rattle.java_control.specs.Control.{Step}
use Rattle.java_control.specs.PlaceNumbers.{IsSmall}
use Rattle.control_actions.specs.declared.action.Action.{Action}
use Rattle.control_actions.specs.declared.action.Action.TheVariants as actions
use Rattle.control_actions.specs.declared.action.Completion.{Completion}
use Rattle.control_actions.specs.declared.action.Completion.TheVariants as completions
use Rattle.control_actions.specs.declared.action.Edge.{Edge}
use Rattle.control_actions.specs.declared.action.Edge.TheVariants as edges
use Rattle.control_actions.specs.declared.fact.OriginKind.{OriginKind}
use Rattle.control_actions.specs.declared.fact.OriginKind.TheVariants as kinds
use Rattle.control_actions.specs.declared.place.Place.{Place}
use Rattle.control_actions.specs.declared.place.Place.TheVariants as places
use Rattle.ownership_rules.specs.Callees.{callee, callee_in, holds_operand, may_be_null_target}
use Rattle.ownership_rules.specs.Facts.{PlaceSet, has, is_origin_at}
use Rattle.ownership_rules.specs.SmallActions.{IsSmallAction}
use Rattle.ownership_rules.specs.MovesAtCalls.{moved_at_call}
use Rattle.ownership_rules.specs.Room.{variable_count, variables_in}
use Rattle.ownership_rules.specs.declared.moved.Moved.TheVariants as moves
use Rattle.content_laws.specs.CalledRows.{holds_target, promises_at}
use Rattle.content_laws.specs.Aliases.{gives_alias}
use Rattle.content_laws.specs.Ends.{is_throw}
use Rattle.content_laws.specs.Flow.{flow}
use Rattle.content_laws.specs.Paths.{Reach, move_of, relation_of}
use Rattle.content_laws.specs.Accept.{Accept}
use Rattle.ledger_state.specs.Contents.{HeapContents}
use Rattle.ledger_state.specs.Heaps.{object_at, root_of}
use Rattle.ledger_state.specs.Locals.{variable_value}
use Rattle.ledger_state.specs.declared.object.Object.{Object}
use Rattle.ledger_state.specs.declared.value.Value.TheVariants as values
use Rattle.ledger_state.specs.declared.entry.Owner.TheVariants as owners
use Rattle.ledger_obligations.specs.Obligations.{is_library_owner}
use Rattle.content_laws.specs.Places.{place_value}
use Rattle.ledger_steps.specs.LedgerCallsCalls.{alias_position, operand_of}
use Rattle.content_laws.specs.Configuration.{Frame}
use Rattle.content_laws.specs.Choosing.{body_id, frame_steps}
use Rattle.ledger_steps.specs.Ends.{answered, exception_class, result_value, thrown_in}
use Rattle.content_laws.specs.Heaps.{GoesOn}
use Rattle.content_laws.proofs.NoteLists.{name_from_all, name_where}
use Rattle.content_laws.proofs.CallWays.{one_action}
use Rattle.content_laws.specs.Outcomes.{IsCallRow, IsFault}
use Rattle.content_laws.specs.Agreement.{Stands, TracksAs, WaitsFor}
use Rattle.content_laws.specs.Renewing.{fact_as, is_renewed}
use Rattle.content_laws.proofs.Carried.{HoldIt}
use Rattle.content_laws.proofs.Readings.{places_as}
use Rattle.content_laws.specs.PlainForms.{HasPlainForms, IsPlainAction, IsKeptBy, IsPlainCall, KeepsPromises, is_lent_parameter}
use Rattle.content_laws.specs.Covering.{IsCountedOn}
use Rattle.content_laws.specs.PlaceFacts.{Covers, IsCovered, IsHeavyObject, OwesOrHolds, asked_by, asked_of, gives_none, is_lent, is_lent_place, renews_none}
use Rattle.content_laws.specs.Arguments.{HasArguments}
use Rattle.content_laws.proofs.FactOrigins.{parameters_own, this_own}
use Rattle.content_laws.proofs.SignedPromises.{Promises}
use Rattle.content_laws.specs.Throws.{EndsByException}
use Rattle.content_laws.proofs.AliasResults.{argument_is_result}
use Rattle.content_laws.proofs.AliasRoots.{GivesOperand, gives_operand}
use Rattle.content_laws.proofs.CoveredArguments.{argument_is_given, asked_before}
use Rattle.content_laws.proofs.CallNames.{no_target, object_with_root, operand_has_position, operand_of_fact}
use Rattle.content_laws.proofs.EndNames.{HasAlike, at_target, element_there, own_alike, parameter_origin, parameters_fit, run_alike, spoken, zero_origin}
use Rattle.content_laws.proofs.KnownNames.{AreKept, all_kept}
use Rattle.content_laws.proofs.ParameterEnds.{AsksFor, return_asks, shown_on_position, throw_asks, unowned_moves}
use Rattle.content_laws.proofs.Ready.{named_gives_none, plain_call, plain_step, step_here, step_there}
use Rattle.content_laws.proofs.Unmet.{call_may, row_of}
use Rattle.content_laws.proofs.Goes.{not_the_librarys_owes}
use Rattle.content_laws.proofs.Following.{breaks_nothing, same_body}
use Rattle.content_laws.proofs.HeavyFields.{asked_here, covered_at, lent_not_alone, lent_tells}
use Rattle.content_laws.specs.Naming.{IsOfItsKind}
use Rattle.content_laws.proofs.NamedReached.{names_what_is_there}
use Rattle.content_laws.proofs.SaidFacts.{lent_is_said}
use Rattle.soundness_laws.proofs.KeptPromises.{GivesRoot, ReturnsAlias}
use Rattle.soundness_laws.proofs.Makers.{IsRunBelow, body_method, run_below}
use Rattle.soundness_laws.proofs.Programs.{is_programs}
use Rattle.soundness_laws.proofs.Supporting.{not_true, throws_by}

-- what holds of all elements of a list holds of each
each_of : {X : Type 0} (P : X → Type 0) (xs : List X) (k : ℕ) (x : X) → All P xs → slice_get xs k ≡ Some x → P x
each_of P [] k x all at = absurd (let never : None ≡ Some x = at in cc)
each_of P (y ∷ ys) zero x all at = subst P (let both : Some y ≡ Some x = at in (let same : y ≡ x = cc in same)) (All-head P y ys all)
each_of P (y ∷ ys) (suc k) x all at = each_of P ys k x (All-tail P y ys all) at

module _ (p : Program) (ac : Accept p) (forms : HasPlainForms p) (h : HeapContents) (fr caller : Frame) (rest : List Frame) (st : Stands p fr) (wait : WaitsFor p h caller fr) (old : ℕ → Bool) (covered : IsCovered p h gives_none renews_none old (caller ∷ rest) fr)
    (args : HasArguments p caller fr) (apart : (o : ℕ) (x : Object) → object_at h o ≡ Some x → IsHeavyObject p x → x.owner ≡ owners.Frame (length rest + 1) → is_renewed p h caller o ≡ false → IsCountedOn p h old (caller ∷ rest) fr o x)
    (exits : EndsByException p h fr) (below : Stands p caller) (i j : ℕ) (s t : Step) (q : Completion) (here : slice_get (frame_steps p fr) i ≡ Some s) (is : s.action ≡ actions.End q)
    (there : slice_get (frame_steps p caller) j ≡ Some t) (row : IsCallRow t.action) (normal : exception_class p h (thrown_in fr.locals q) ≡ None → t.edge ≡ edges.Go)
    (thrown : (c : ClassId) → exception_class p h (thrown_in fr.locals q) ≡ Some c → (k : ClassId) × (t.edge ≡ edges.Throws k)) where
  abbrev named : MethodId
  named = wait.named

  run : IsRunBelow p fr named
  run = run_below p ac forms h fr caller st below wait

  abbrev n : Method
  n = run.method

  first_row : IsCallRow wait.step.action
  first_row = row_of wait.step.action named wait.calls

  -- all steps of the caller are steps of the call
  same_action : t.action ≡ wait.step.action
  same_action = one_action p below.number caller.control wait.index j wait.step t (step_here p caller below wait.index wait.step wait.here) (step_here p caller below j t there) (call_may wait.step.action first_row)

  called : called_method t.action ≡ Some named
  called = ap called_method same_action ∙ wait.calls

  same_callee : callee p t.action ≡ Some n
  same_callee = ap (callee_in p) called ∙ run.named_at

  call : IsPlainCall p named
  call = plain_call p wait.step.action named (plain_step p ac forms caller below wait.index wait.step wait.here) first_row wait.calls

  program : is_library p run.running.class ≡ false
  program = is_programs p ac fr.method run.running st.number run.running_at st.id

  small : IsSmallAction p t.action
  small = (ac.fits below.number).steps j (move_of t) below.control (step_there p caller below j t there)

  -- ---- how the frame has ended

  abbrev e : Option ClassId
  e = exception_class p h (thrown_in fr.locals q)

  normal_end : t.edge ≡ edges.Go → e ≡ None
  normal_end edge = go e refl
    where
      go : (x : Option ClassId) → e ≡ x → e ≡ None
      go None is' = is'
      go (Some c) is' = let way = thrown c is' in absurd (let never : edges.Go ≡ edges.Throws way.0 = sym edge ∙ way.1 in cc)

  throw_end : (c : ClassId) → t.edge ≡ edges.Throws c → is_throw q ≡ true
  throw_end c edge = go e refl
    where
      go : (x : Option ClassId) → e ≡ x → is_throw q ≡ true
      go None is' = absurd (let never : edges.Throws c ≡ edges.Go = sym edge ∙ normal is' in cc)
      go (Some k) is' = throws_by p h fr.locals q k is'

  returns : t.edge ≡ edges.Go → is_throw q ≡ false
  returns edge = by q refl
    where
      by : (c : Completion) → q ≡ c → is_throw q ≡ false
      by (completions.Throw f k pos) is' =
          absurd (exits i s f k pos here (is ∙ ap actions.End is') (ap (λ (c : Completion). exception_class p h (thrown_in fr.locals c)) (sym is') ∙ normal_end edge))
      by (completions.Return pos) is' = ap is_throw is'
      by (completions.ReturnValue f pos) is' = ap is_throw is'
      by (completions.Break pos) is' = ap is_throw is'
      by (completions.Continue pos) is' = ap is_throw is'

  -- ---- an object of the caller

  module _ (o : ℕ) (x : Object) (anew : Bool) (w : TracksAs p h anew caller o x) (before : object_at h o ≡ Some x) (done : x.finished ≡ true) (heavy : is_heavy_class p x.class ≡ true) (mine : x.owner ≡ owners.Frame (length rest + 1))
      (stays : moved_at_call p w.origin t.action t.edge w.fact ≡ moves.Moves → ⊥) where
    owes : OwesOrHolds p h o x
    owes = inl (not_the_librarys_owes x (ap is_library_owner mine))

    wide : is_heavy_class p w.origin.class ≡ true
    wide = ap not (not_true (is_empty (must_of p w.origin.class)) (λ light.
        true≢false (sym (within_trans (must_of p x.class) (must_of p w.origin.class) no_names w.follows.class light) ∙ not-true (is_empty (must_of p x.class)) heavy)))

    -- the places of the fact hold the object
    holds_it : HoldIt p h caller.method caller.locals o w.fact.places
    holds_it z room one = w.follows.places z room (ap (λ (held : PlaceSet). has held z) (places_as anew w.fact) ∙ one)

    operand : (v : ℕ) → holds_operand t.action w.fact.places v ≡ true → root_of h (operand_of caller.locals t.action v) ≡ Some o
    operand v holds = operand_of_fact p h caller.method caller.locals t.action o v w.fact.places small (operand_has_position p t.action w.fact.places v small holds) holds_it holds

    reached : Reach p below.number (relation_of p below.number) w.origin caller.control w.fact
    reached = subst (λ (b : BodyId). Reach p b (relation_of p b) w.origin caller.control w.fact) (same_body w.body below.number (body_id p caller.method) w.id below.id) w.reached

    -- the call breaks no rule
    fine : IsFault (flow p below.number w.origin t.action t.edge w.fact) → ⊥
    fine = breaks_nothing p ac below.number w.origin j (move_of t) w.fact reached (step_there p caller below j t there)

    -- where the call does not create its obligation anew
    module _ (y : Object) (goes : GoesOn x y) (unrenewed : is_renewed p h caller o ≡ false) (as_it_is : anew ≡ false) where
      known_before : set.is_subset w.fact.called x.called ≡ true
      known_before = ap (λ (b : Bool). set.is_subset (fact_as b w.fact).called x.called) (sym as_it_is) ∙ w.follows.called

      module _ (r : Method) (own_method : method_at p fr.method ≡ Some r) (alike : HasAlike p r n) (xs : List Promise) (asks : AsksFor p st.number q xs) (k : ℕ) (u : Promise) (at : slice_get xs k ≡ Some u)
          (promises : Promises r u) where
        -- what is lent shows its names, but for those that are asked for before
        of_lent : (place : Place) (v : ℕ) (f : OriginKind) → IsSmall place → is_lent_place p fr place ≡ false → root_of h (place_value p h fr.method fr.locals place) ≡ Some o → u.target ≡ promised.At v → is_lent p (Some r) f ≡ true → set.is_subset (asked_of p (Some r) f) x.called ≡ true
            → ((cover : Covers p h false false old (caller ∷ rest) fr o x) → has cover.fact.places place ≡ true → (is_origin_at cover.origin.kind (Some v) ≡ true) × (cover.origin.kind ≡ f)) → set.is_subset u.names y.called ≡ true
        of_lent place v f room kept root target lent asked its =
            let found = covered_at p h false false old (caller ∷ rest) fr place o x (covered place o x room kept root before heavy owes) in
            let cover : Covers p h false false old (caller ∷ rest) fr o x = found.0 in
            let origin = its cover found.1 in
            let lent' : is_lent p (method_at p fr.method) cover.origin.kind ≡ true = ap (is_lent p (method_at p fr.method)) origin.1 ∙ ap (λ (m : Option Method). is_lent p m f) own_method ∙ lent in
            let asks' : asked_of p (method_at p fr.method) cover.origin.kind ≡ asked_of p (Some r) f = ap (asked_of p (method_at p fr.method)) origin.1 ∙ ap (λ (m : Option Method). asked_of p m f) own_method in
            within_trans u.names x.called y.called
            (within_trans u.names (set.union (asked_of p (method_at p fr.method) cover.origin.kind) x.called) x.called
            (shown_on_position p ac h fr st i s q here is old (caller ∷ rest) o x cover (unowned_moves p st.number cover.origin cover.fact (cover.lent lent').0 q) (set.union (asked_of p (method_at p fr.method) cover.origin.kind) x.called)
            (cover.known done (lent_tells p fr.method cover.origin cover.fact (lent_not_alone p h false false old (caller ∷ rest) fr o x cover lent') lent') (let it = apart o x before (done, heavy) mine unrenewed in (it.0, it.1, it.2, lent_is_said p (caller ∷ rest) fr cover.fact (cover.lent lent').1)) refl) xs asks v k u at target origin.0)
            (union_within (asked_of p (method_at p fr.method) cover.origin.kind) x.called x.called (ap (λ (z : Names). set.is_subset z x.called) asks' ∙ asked) (within_self x.called))) goes.called

        reached_here : (cover : Covers p h false false old (caller ∷ rest) fr o x) → Reach p st.number (relation_of p st.number) cover.origin fr.control cover.fact
        reached_here cover = subst (λ (b : BodyId). Reach p b (relation_of p b) cover.origin fr.control cover.fact) (same_body cover.body st.number (body_id p fr.method) cover.id st.id) cover.reached

        on_receiver : u.target ≡ promised.At 0 → holds_operand t.action w.fact.places 0 ≡ true → set.is_subset u.names y.called ≡ true
        on_receiver target holds =
            let v = object_with_root h (operand_of caller.locals t.action 0) o (operand 0 holds) in
            let this : fr.locals.this ≡ values.Object v.0 = args.receiver j t v.0 there v.1 in
            of_lent places.This 0 kinds.ThisRef tt refl (ap (root_of h) this ∙ ap Some v.2) target refl (empty_within x.called)
            (λ cover here'. (let own = this_own p ac st.number st.body st.at cover.origin fr.control cover.fact (reached_here cover) here' in (own, zero_origin cover.origin.kind own)))

        -- an owning parameter of a type that has an obligation takes the object, which then does not stay
        never_owning : (v : ℕ) (param : ParamSig) → slice_get r.sig.params.items v ≡ Some param → param.owning ≡ true → holds_operand t.action w.fact.places (v + 1) ≡ true → ⊥
        never_owning v param param_at owning holds =
            let named' = alike v param param_at in
            stays (argument_is_given p below.number w.origin t.edge w.fact t.action row fine n v named'.0 same_callee named'.1 (named'.2 owning) holds
            (or_left (is_heavy_class p w.origin.class) (not (is_empty (must_of_type p named'.0.vtype))) wide)).1

        on_parameter : (v : ℕ) → u.target ≡ promised.At (v + 1) → v < length r.sig.params.items → holds_operand t.action w.fact.places (v + 1) ≡ true → set.is_subset u.names y.called ≡ true
        on_parameter v target inside holds = by (element_there r.sig.params.items v inside)
          where
            parameter : is_spoken_variable r v ≡ true
            parameter = spoken r v u promises target inside

            root : root_of h (variable_value fr.locals v) ≡ Some o
            root = ap (root_of h) (args.parameters j t r v there own_method parameter) ∙ ap (λ (m : ℕ). root_of h (operand_of caller.locals t.action m)) (let next : suc v ≡ v + 1 = omega arith in next) ∙ operand (v + 1) holds

            room : v < 160
            room =
                let few = (ac.fits st.number).room.variables in
                let count : variable_count p st.number ≡ length st.body.vars.items = ap variables_in st.at in
                let more = parameters_fit st.body.vars.items r.sig.params.items
                (subst (λ (m : Option Method). IsSomeAnd m (IsBodyOf st.number st.body)) (ap (method_at p) st.method ∙ own_method) (ac.well_formed.valid.typed.bodies st.number st.body st.at).method).1 in
                omega (arith, few, count, more, inside)

            -- what it asks for before was called, as the caller's fact says
            asked_there : (param : ParamSig) → slice_get r.sig.params.items v ≡ Some param → set.is_subset param.before x.called ≡ true
            asked_there param param_at =
                let named' = alike v param param_at in
                within_trans param.before named'.0.before x.called named'.4
                (within_trans named'.0.before w.fact.called x.called (asked_before p below.number w.origin t.edge w.fact t.action row fine n v named'.0 same_callee named'.1 holds) known_before)

            of_param : (param : ParamSig) → slice_get r.sig.params.items v ≡ Some param → param.owning ≡ false → set.is_subset u.names y.called ≡ true
            of_param param param_at free =
                let lent : is_lent_parameter p (Some param) ≡ true = rw free refl in
                of_lent (places.Var v) (v + 1) (kinds.Param v) room refl root target (ap (is_lent_parameter p) param_at ∙ lent)
                (ap (λ (z : Names). set.is_subset z x.called) (ap (asked_by p) param_at ∙ asked_here p param lent) ∙ asked_there param param_at)
                (λ cover here'. (let own = parameters_own p ac st.number st.body r v st.at (ap (method_at p) st.method ∙ own_method) parameter cover.origin fr.control cover.fact (reached_here cover) here' in
                (own, parameter_origin v cover.origin.kind own)))

            by : (param : ParamSig) × (slice_get r.sig.params.items v ≡ Some param) → set.is_subset u.names y.called ≡ true
            by (param, param_at) = lent_or_taken param.owning refl
              where
                lent_or_taken : (b : Bool) → param.owning ≡ b → set.is_subset u.names y.called ≡ true
                lent_or_taken false free = of_param param param_at free
                lent_or_taken true owning = absurd (never_owning v param param_at owning holds)

        -- a position whose operand the fact has
        on_position : (v : ℕ) → u.target ≡ promised.At v → IsPromised p r.sig (promised.At v) → holds_operand t.action w.fact.places v ≡ true → set.is_subset u.names y.called ≡ true
        on_position zero target valid holds = on_receiver target holds
        on_position (suc v) target valid holds =
            let next : suc v ≡ v + 1 = omega arith in
            on_parameter v (target ∙ ap promised.At next) (omega (arith, valid)) (ap (holds_operand t.action w.fact.places) (sym next) ∙ holds)

      -- a fact that tracks an object has no field
      no_field : (f : FieldId) → holds_target p below.number t.action w.fact.places (promised.OfField f) ≡ true → ⊥
      no_field f holds = true≢false (sym holds ∙ no_target p ac below.number t.action w.fact.places (promised.OfField f) (λ z room one. (holds_it z room one).0) tt)

      on_target : (same : fr.method ≡ named) (xs : List Promise) → AsksFor p st.number q xs → (k : ℕ) (u : Promise) → slice_get xs k ≡ Some u → Promises n u → (v : Target) → u.target ≡ v → IsPromised p n.sig v
          → holds_target p below.number t.action w.fact.places v ≡ true → set.is_subset u.names y.called ≡ true
      on_target same xs asks k u at promises (promised.At v) target valid holds =
          on_position n (ap (method_at p) same ∙ run.named_at) (own_alike p n) xs asks k u at promises v target valid holds
      on_target same xs asks k u at promises (promised.OfField f) target valid holds = absurd (no_field f holds)

      -- the method that ran is as the named signature says
      alike_here : HasAlike p run.running n
      alike_here = run_alike p n run.running run.fit

      valid : IsValidSig p n.sig
      valid = (ac.well_formed.valid.typed.methods named n run.named_at).signature

      abbrev Kept : List Promise → Type 0
      Kept ps = AreKept p below.number t.action w.fact.places y.called ps

      kept_as : (ps qs : List Promise) → qs ≡ ps → Kept ps → Kept qs
      kept_as ps qs same kept = subst (λ (us : List Promise). AreKept p below.number t.action w.fact.places y.called us) (sym same) kept

      -- all of a list that the end asks for
      all_of_end : (same : fr.method ≡ named) (xs : List Promise) → AsksFor p st.number q xs → ((k : ℕ) (u : Promise) → slice_get xs k ≡ Some u → Promises n u) → All (λ (v : Promise). IsPromised p n.sig v.target) xs → Kept xs
      all_of_end same xs asks promises valid' = all_kept p below.number t.action w.fact.places y.called xs (λ k u at holds.
          on_target same xs asks k u at (promises k u at) u.target refl (each_of (λ (v : Promise). IsPromised p n.sig v.target) xs k u valid' at) holds)

      here_is : fr.method ≡ named → method_of p st.number ≡ Some n
      here_is same = body_method p ac forms fr st ∙ ap (method_at p) same ∙ run.named_at

      returned : fr.method ≡ named → t.edge ≡ edges.Go → Kept n.sig.promises.items
      returned same edge =
          all_of_end same n.sig.promises.items (subst (λ (m : Option Method). AsksFor p st.number q (promises_in m)) (here_is same) (return_asks p st.number q (returns edge))) (λ k u at. (k, inl at)) valid.promises

      itself : fr.method ≡ named → (f : Edge) → t.edge ≡ f → Kept (promises_at p t.action f)
      itself same edges.Go edge = kept_as n.sig.promises.items (promises_in (callee p t.action)) (ap promises_in same_callee) (returned same edge)
      itself same edges.Null edge = tt
      itself same edges.NonNull edge = tt
      itself same edges.True edge = tt
      itself same edges.False edge = tt
      itself same (edges.Throws c) edge = by (may_be_null_target p t.action (edges.Throws c))
        where
          by : (b : Bool) → Kept (if b then [] else throwing_promises_in (callee p t.action))
          by true = tt
          by false = kept_as n.sig.on_throw.items (throwing_promises_in (callee p t.action)) (ap throwing_promises_in same_callee)
              (all_of_end same n.sig.on_throw.items (subst (λ (m : Option Method). AsksFor p st.number q (throwing_promises_in m)) (here_is same) (throw_asks p st.number q (throw_end c edge))) (λ k u at. (k, inr at)) valid.on_throw)

      -- and all that the method that ran promises as the named one does
      by_run : (ps ns : List Promise) → AsksFor p st.number q ps → ((k : ℕ) (u : Promise) → slice_get ps k ≡ Some u → Promises run.running u) → All (λ (v : Promise). IsPromised p run.running.sig v.target) ps
          → All (λ (v : Promise). IsKeptBy ps v.target v.names) ns → Kept ns
      by_run ps ns asks promises valid' keeps = all_kept p below.number t.action w.fact.places y.called ns (λ k u at holds. one u.target u.names (each_of (λ (v : Promise). IsKeptBy ps v.target v.names) ns k u keeps at) holds)
        where
          one : (v : Target) (names : Names) → IsKeptBy ps v names → holds_target p below.number t.action w.fact.places v ≡ true → set.is_subset names y.called ≡ true
          one (promised.OfField f) names kept holds = absurd kept
          one (promised.At v) names kept holds = within_from names y.called by_name
            where
              by_name : (a : ℕ) → set.contains names a ≡ true → set.contains y.called a ≡ true
              by_name a has' =
                  let mine = name_from_all (λ (z : Promise). when (is_at z.target v) z.names) ps a (within_at names (promised_names (λ z. is_at z v) ps) kept a has') in
                  let parts = name_where (is_at mine.0.target v) mine.0.names a mine.3 in
                  let target = at_target mine.0.target v parts.0 in
                  within_at mine.0.names y.called
                  (on_position run.running run.running_at alike_here ps asks mine.1 mine.0 mine.2 (promises mine.1 mine.0 mine.2) v target
                  (subst (λ (z : Target). IsPromised p run.running.sig z) target (each_of (λ (z : Promise). IsPromised p run.running.sig z.target) ps mine.1 mine.0 valid' mine.2)) holds) a parts.1

      here_run : method_of p st.number ≡ Some run.running
      here_run = body_method p ac forms fr st ∙ run.running_at

      valid_run : IsValidSig p run.running.sig
      valid_run = (ac.well_formed.valid.typed.methods fr.method run.running run.running_at).signature

      as_promised : KeepsPromises n run.running → (f : Edge) → t.edge ≡ f → Kept (promises_at p t.action f)
      as_promised keeps edges.Go edge = kept_as n.sig.promises.items (promises_in (callee p t.action)) (ap promises_in same_callee)
          (by_run run.running.sig.promises.items n.sig.promises.items (subst (λ (m : Option Method). AsksFor p st.number q (promises_in m)) here_run (return_asks p st.number q (returns edge))) (λ k u at. (k, inl at)) valid_run.promises
          keeps.returning)
      as_promised keeps edges.Null edge = tt
      as_promised keeps edges.NonNull edge = tt
      as_promised keeps edges.True edge = tt
      as_promised keeps edges.False edge = tt
      as_promised keeps (edges.Throws c) edge = by (may_be_null_target p t.action (edges.Throws c))
        where
          by : (b : Bool) → Kept (if b then [] else throwing_promises_in (callee p t.action))
          by true = tt
          by false = kept_as n.sig.on_throw.items (throwing_promises_in (callee p t.action)) (ap throwing_promises_in same_callee)
              (by_run run.running.sig.on_throw.items n.sig.on_throw.items (subst (λ (m : Option Method). AsksFor p st.number q (throwing_promises_in m)) here_run (throw_asks p st.number q (throw_end c edge))) (λ k u at. (k, inr at))
              valid_run.on_throw keeps.throwing)

      operands_kept : AreKept p below.number t.action w.fact.places y.called (promises_at p t.action t.edge)
      operands_kept = elim (call.keeps fr.method n run.running wait.runs run.named_at run.running_at program) [
        | inl keeps ↦ as_promised keeps t.edge refl
        | inr same ↦ itself same t.edge refl
      ]

    -- ---- the aliased operand

    alias_given : ReturnsAlias p h fr caller t.action t.edge w.fact.places q o
    alias_given gives = by t.action refl
      where
        given : GivesOperand t.action w.fact.places (Some n) × (t.edge ≡ edges.Go)
        given = gives_operand p t.action t.edge w.fact.places (Some n) small same_callee gives

        alias : run.running.sig.alias ≡ Some given.0.position
        alias = run.fit.alias ∙ given.0.alias

        aliased_root : root_of h (operand_of caller.locals t.action given.0.position) ≡ Some o
        aliased_root = operand given.0.position given.0.operand

        -- a method of the program gives its argument back
        result : constructs (method_at p fr.method) ≡ false → root_of h (result_value fr.locals (method_at p fr.method) q) ≡ Some o
        result other =
            ap (λ (m : Option Method). root_of h (result_value fr.locals m q)) run.running_at
            ∙ argument_is_result p ac h fr caller old rest st args covered i s q here is (returns given.1) run.running run.running_at given.0.position alias
            (ap constructs (sym run.running_at) ∙ other) j t there o x before heavy owes aliased_root

        kind : IsOfItsKind p t.action
        kind = (names_what_is_there p ac.well_formed.valid.typed below.number below.body caller.control j (move_of t) below.at below.control (step_there p caller below j t there)).1

        one : (m : MethodId) → called_method t.action ≡ Some m → m ≡ named
        one m is' = let both : Some m ≡ Some named = sym is' ∙ called in cc

        by : (a : Action) → t.action ≡ a → GivesRoot p h caller.locals t.action (answered fr.locals.this t.action (result_value fr.locals (method_at p fr.method) q) e) o
        by actions.Skip is' = absurd (subst IsCallRow is' row)
        by (actions.Call m d c form) is' = subst (λ (a : Action). GivesRoot p h caller.locals a (answered fr.locals.this a (result_value fr.locals (method_at p fr.method) q) e) o) (sym is')
            (ap (λ (x : Option ClassId). root_of h (answered fr.locals.this (actions.Call m d c form) (result_value fr.locals (method_at p fr.method) q) x)) (normal_end given.1)
            ∙ result (wait.kind ∙ ap (λ (z : MethodId). constructs (method_at p z)) (sym (one m (ap called_method is'))) ∙ subst (IsOfItsKind p) is' kind))
        by (actions.New m d c) is' = subst (λ (a : Action). GivesRoot p h caller.locals a (answered fr.locals.this a (result_value fr.locals (method_at p fr.method) q) e) o) (sym is') (
          given.0.position,
          ap (λ (z : MethodId). alias_position (method_at p z)) (one m (ap called_method is')) ∙ ap alias_position run.named_at ∙ given.0.alias,
          ap (λ (a : Action). root_of h (operand_of caller.locals a given.0.position)) (sym is') ∙ aliased_root,
        )
        by (actions.Super m d c) is' =
            absurd (true≢false (sym gives ∙ ap (λ (a : Action). gives_alias p a t.edge w.fact.places) is'
            ∙ named_gives_none p (actions.Super m d c) t.edge w.fact.places (subst (IsPlainAction p) is' (plain_step p ac forms caller below j t there)).2))
        by a is' = absurd (subst IsCallRow is' row)

    pub operands_shown : ((y : Object) → GoesOn x y → is_renewed p h caller o ≡ false → anew ≡ false → AreKept p below.number t.action w.fact.places y.called (promises_at p t.action t.edge))
        × ReturnsAlias p h fr caller t.action t.edge w.fact.places q o
    operands_shown = ((λ y goes unrenewed as_it_is. operands_kept y goes unrenewed as_it_is), alias_given)
