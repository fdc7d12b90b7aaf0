-- What a call of the program without an aliased argument gives its caller when the frame above has ended: an exception is light, a `new` gives
-- its finished object, and an owning result of a type with an obligation was owned by the frame, or its end breaks a rule.
use Rattle.std.specs.Prelude.{not}
use Rattle.std.proofs.Common.{◌≡◌, ◌⊎◌, inl, inr, ℕ, ◌+◌, ◌<◌, Bool, true, false, true≢false, ◌&&◌, Option, Some, None, List, ◌∷◌, length, slice_get, refl, sym, ap, ◌∙◌, subst, arith}
use Rattle.std.specs.FinSet as set
use Rattle.std.proofs.lemmas.Bool.{and_from, not-true, or_right}
use Rattle.rlc_base.specs.declared.place.Pos.{Pos}
use Rattle.rlc_base.proofs.SetLaws.{within_self, within_trans}
use Rattle.program_model.specs.declared.kinds.BodyId.{BodyId}
use Rattle.program_model.specs.declared.kinds.ClassId.{ClassId}
use Rattle.program_model.specs.declared.kinds.MethodId.{MethodId}
use Rattle.program_model.specs.declared.kinds.VType.{VType}
use Rattle.program_model.specs.declared.kinds.VType.TheVariants as types
use Rattle.program_model.specs.declared.program.Method.{Method}
use Rattle.program_model.specs.declared.program.Program.{Program}
use Rattle.program_model.specs.Lookups.{method_at}
use Rattle.program_model.specs.Overrides.{is_library}
use Rattle.program_model.specs.SuperTests.{is_under}
use Rattle.program_model.specs.Validity.{IsResult, is_class_type}
use Rattle.ledger_obligations.specs.Bodies.{alias_in, method_in, method_of}
use Rattle.ledger_obligations.specs.MustCallSets.{Names, fits, fits_type, is_empty, is_heavy_class, must_of, must_of_optional, must_of_type, no_names}
use Rattle.ledger_obligations.specs.OverrideCases.{differ}
use Rattle.java_control.specs.Calls.{called_method, completion_temp}
use Rattle.java_control.specs.Control.{Step}
use Rattle.java_control.specs.PlaceNumbers.{IsSmall}
use Rattle.control_actions.specs.declared.action.Action.{Action}
use Rattle.control_actions.specs.declared.action.Action.TheVariants as actions
use Rattle.control_actions.specs.declared.action.Completion.{Completion}
use Rattle.control_actions.specs.declared.action.Completion.TheVariants as completions
use Rattle.control_actions.specs.declared.action.Edge.TheVariants as edges
use Rattle.control_actions.specs.declared.action.TargetForm.{TargetForm}
use Rattle.control_actions.specs.declared.fact.Mode.{Mode}
use Rattle.control_actions.specs.declared.fact.Mode.TheVariants as modes
use Rattle.control_actions.specs.declared.fact.OriginKind.TheVariants as kinds
use Rattle.control_actions.specs.declared.place.Place.{Place}
use Rattle.control_actions.specs.declared.place.Place.TheVariants as places
use Rattle.ownership_rules.specs.Facts.{has, is_held, is_own}
use Rattle.ownership_rules.specs.Signatures.{is_present}
use Rattle.ownership_rules.specs.SmallActions.{IsSmallAction, IsSmallTemp}
use Rattle.ownership_rules.specs.Births.{fact_at, origin_of}
use Rattle.ownership_rules.specs.MovesAtReturns.{owning_result_in}
use Rattle.ownership_rules.specs.MovesAtReturns as at_returns
use Rattle.value_laws.specs.Flow.{flow}
use Rattle.value_laws.specs.Paths.{Reach, move_of, relation_of}
use Rattle.value_laws.specs.Accept.{Accept}
use Rattle.ledger_state.specs.Classes.{class_in, runtime_class}
use Rattle.ledger_state.specs.Contents.{HeapContents}
use Rattle.ledger_state.specs.declared.entry.Owner.{Owner}
use Rattle.ledger_state.specs.Heaps.{object_at, root, root_of, unfinished}
use Rattle.ledger_state.specs.Locals.{temp_value}
use Rattle.ledger_state.specs.Values.{number_of}
use Rattle.ledger_state.specs.declared.object.Link.{Link}
use Rattle.ledger_state.specs.declared.object.Object.{Object}
use Rattle.ledger_state.specs.declared.value.Value.{Value}
use Rattle.ledger_state.specs.declared.value.Value.TheVariants as values
use Rattle.ledger_state.specs.declared.entry.Owner.TheVariants as owners
use Rattle.ledger_obligations.specs.Obligations.{first_set, is_library_owner}
use Rattle.value_laws.specs.Places.{class_of_method, place_value}
use Rattle.ledger_steps.specs.LedgerCallsCalls as calls
use Rattle.ledger_steps.specs.Conducts as conducts
use Rattle.ledger_steps.specs.Conducts.{owning_in}
use Rattle.value_laws.specs.Configuration.{Frame}
use Rattle.value_laws.specs.Choosing.{body_id, frame_steps}
use Rattle.value_laws.specs.Frames.{frame_after, is_made, made_place}
use Rattle.ledger_steps.specs.Ends.{answered, exception_class, result_value, returned_heap, thrown_in}
use Rattle.value_laws.specs.Heaps.{HasEarlierLinks}
use Rattle.value_laws.proofs.HeapLaws.{roots_of_links-itself}
use Rattle.value_laws.proofs.PlaceLaws.{single_place-same}
use Rattle.value_laws.specs.Outcomes.{IsCallRow, IsFault}
use Rattle.value_laws.specs.Agreement.{IsMade, IsMadeByNew, Stands}
use Rattle.value_laws.specs.PlainForms.{HasPlainForms, IsPlainCall, MayRun, RunsFor, all_owe_nothing}
use Rattle.value_laws.specs.Nexts.{IsBackStep}
use Rattle.value_laws.specs.Operands.{NoObject, result_of}
use Rattle.value_laws.proofs.CallNames.{object_with_root}
use Rattle.value_laws.proofs.Chains.{object_there}
use Rattle.value_laws.specs.Typed.{GivesResult, NamesMembers}
use Rattle.value_laws.specs.Types.{GivesAsNamed, IsNoObjectButText, KeepsTypes, is_text}
use Rattle.value_laws.proofs.ValueTypeLaws.{returned_value_is_no_object}
use Rattle.value_laws.specs.FieldContents.{is_new}
use Rattle.value_laws.specs.PlaceFacts.{Covers, IsCovered, IsKeyed, IsOwned, IsTrueOf, gives_none, OwesOrHolds, owned, renews_none, unowned}
use Rattle.value_laws.specs.Renewing.{is_renewed, lends_this}
use Rattle.value_laws.proofs.EndResets.{plain_alias_position}
use Rattle.value_laws.proofs.Renewed.{says_nothing, without_reset}
use Rattle.value_laws.specs.Ranges.{LocalsInRange}
use Rattle.covering_laws.proofs.Following.{breaks_nothing, same_body, step_there}
use Rattle.covering_laws.proofs.HeavyFields.{own_claims}
use Rattle.covering_laws.specs.Running.{HasPlainRuns, IsAlike}
use Rattle.covering_laws.specs.Linking.{LinkedAreAliases}
use Rattle.covering_laws.proofs.AliasResults.{default_no_root}
use Rattle.covering_laws.proofs.Bodies.{running_method}
use Rattle.covering_laws.proofs.BornTruths.{true_of_made}
use Rattle.covering_laws.proofs.CallResults.{IsBornSo, new_covers, result_covers}
use Rattle.covering_laws.proofs.EndHeaps.{finished_here}
use Rattle.covering_laws.proofs.EndOwners.{end_new_owner, end_result_owner}
use Rattle.covering_laws.proofs.GivenArguments.{true_of_result}
use Rattle.covering_laws.proofs.LightExceptions.{leaving_is_light, leaving_is_throwable}
use Rattle.covering_laws.proofs.LightResults.{apart_from_strings, light_root}
use Rattle.covering_laws.specs.Throws.{EndsAsDeclared}
use Rattle.covering_laws.proofs.LinkedExceptions.{exceptions_unlinked}
use Rattle.covering_laws.proofs.LocalSteps.{names_members}
use Rattle.covering_laws.proofs.ResultOwners.{result_is_owned}
use Rattle.covering_laws.proofs.Waiting.{IsCarried, KeepsRoots, bore_before, value_root}
use Rattle.covering_laws.proofs.Owners.{HoldersWere}
use Rattle.covering_laws.specs.Texts.{TextsAreLight}

module _ (p : Program) (ac : Accept p) (forms' : HasPlainForms p) (runs' : HasPlainRuns p) (h : HeapContents) (texts : TextsAreLight p h) (links : HasEarlierLinks h) (apart : LinkedAreAliases p h) (fr caller : Frame) (rest : List Frame) (st : Stands p fr) (below : Stands p caller)
    (keeps : KeepsTypes (is_text p h) p fr) (gives : GivesAsNamed p caller fr) (mine' : LocalsInRange h fr.locals) (old older : ℕ → Bool) (covered : IsCovered p h gives_none renews_none old (caller ∷ rest) fr) (i : ℕ) (s : Step) (q : Completion) (here : slice_get (frame_steps p fr) i ≡ Some s) (is : s.action ≡ actions.End q)
    (t : Step) (named : MethodId) (back : IsBackStep p (frame_steps p caller) (exception_class p h (thrown_in fr.locals q)) named t) (n : Method) (named_at : method_at p named ≡ Some n) (call : IsPlainCall p named)
    (may : MayRun p named fr.method) (makes : IsMadeByNew p h t.action fr.locals.this) (declared : EndsAsDeclared p h fr) where
  -- the position of the caller
  abbrev at : ℕ
  at = length rest + 1

  abbrev e : Option ClassId
  e = exception_class p h (thrown_in fr.locals q)

  abbrev v : Value
  v = result_value fr.locals (method_at p fr.method) q

  abbrev V : Value
  V = answered fr.locals.this t.action v e

  -- the method that the call names, but for its reset
  abbrev plain_method : Option Method
  plain_method = without_reset (method_at p named)

  no_reset : calls.reset_position plain_method ≡ None
  no_reset = says_nothing (method_at p named)

  unaliased : n.sig.alias ≡ None → calls.alias_position plain_method ≡ None
  unaliased plain = plain_alias_position (method_at p named) ∙ ap (λ (z : Option Method). calls.alias_position z) named_at ∙ plain

  -- the heap that the end leaves without the reset
  abbrev K : HeapContents
  K = returned_heap p at fr.locals.this caller.locals t.action (method_at p fr.method) plain_method v e h

  abbrev after : Frame
  after = frame_after p h caller t V

  -- the method that ran
  run : (x : Method) × (method_at p fr.method ≡ Some x) × (is_library p x.class ≡ false)
  run = running_method p ac fr st

  fit : RunsFor p n run.0
  fit = call.program fr.method n run.0 may named_at run.1 run.2

  alike : IsAlike p t.action n run.0
  alike = runs'.alike below.number back.index (move_of t) named fr.method n run.0 below.control (step_there p caller below back.index t back.here) back.calls may named_at run.1 run.2

  body_method : method_of p st.number ≡ Some run.0
  body_method = ap (method_in p) st.at ∙ ap (method_at p) st.method ∙ run.1

  module _ (roots : KeepsRoots h K) (unmade : (w : ℕ) (x : Object) → is_new t.action ≡ true → fr.locals.this ≡ values.Object w → object_at h w ≡ Some x → x.finished ≡ false)
      (was : (o : ℕ) (y : Object) → object_at K o ≡ Some y → IsCarried h o y) (holders : HoldersWere p h K) (place : Place) (o : ℕ) (y : Object) (small : IsSmall place) (there : is_made (made_place t.action) place ≡ true)
      (value : place_value p K caller.method after.locals place ≡ V) (rooted : root_of K V ≡ Some o) (now : object_at K o ≡ Some y) (heavy : is_heavy_class p y.class ≡ true)
      (owes : OwesOrHolds p K o y) where
    carried : IsCarried h o y
    carried = was o y now

    -- what a temp of the frame holds
    temp_root : (d : ℕ) → root_of K (temp_value fr.locals d) ≡ Some o → root_of h (temp_value fr.locals d) ≡ Some o
    temp_root d found = sym (value_root h K roots (temp_value fr.locals d) (mine'.temps d)) ∙ found

    temp_object : (d : ℕ) → root_of K (temp_value fr.locals d) ≡ Some o → (k : ℕ) × (x : Object) × (temp_value fr.locals d ≡ values.Object k) × (root h k ≡ o) × (object_at h k ≡ Some x)
    temp_object d found =
        let is = object_with_root h (temp_value fr.locals d) o (temp_root d found) in
        let number = mine'.temps d is.0 (ap number_of is.1) in
        let x = object_there h is.0 (unfinished y.class) number.0 number.1 in
        (is.0, x.0, is.1, is.2, x.1)

    -- the exception is light
    pub thrown_light : (c : ClassId) → e ≡ Some c → root_of K v ≡ Some o → ⊥
    thrown_light c thrown root' = by q refl thrown root'
      where
        light : is_heavy_class p c ≡ false
        light = let way = back.thrown c thrown in leaving_is_light p ac named c way.0 way.1

        by : (r : Completion) → q ≡ r → exception_class p h (thrown_in fr.locals r) ≡ Some c → root_of K (result_value fr.locals (method_at p fr.method) r) ≡ Some o → ⊥
        by (completions.Throw d k pos) same thrown' found =
            let object = temp_object d found in
            let class : object.1.class ≡ c = (let both : Some object.1.class ≡ Some c = sym (ap class_in object.4) ∙ sym (ap (runtime_class p h) object.2) ∙ thrown' in (let one : object.1.class ≡ c = cc in one)) in
            by_link object.0 object.1 object.3 object.4 class object.1.link refl
          where
            by_link : (k' : ℕ) (x : Object) → root h k' ≡ o → object_at h k' ≡ Some x → x.class ≡ c → (l : Option Link) → x.link ≡ l → ⊥
            by_link k' x root'' at' class None none =
                let same : k' ≡ o = sym (roots_of_links-itself h k' x at' none) ∙ root'' in
                let one : carried.0 ≡ x = (let both : Some carried.0 ≡ Some x = sym carried.1 ∙ ap (object_at h) (sym same) ∙ at' in (let it : carried.0 ≡ x = cc in it)) in
                true≢false (sym heavy ∙ ap (is_heavy_class p) (carried.2 ∙ ap (λ (z : Object). z.class) one ∙ class) ∙ light)
            by_link k' x root'' at' class (Some l) some =
                let way = back.thrown c thrown in
                true≢false (sym (leaving_is_throwable p ac named c way.0 way.1) ∙ ap (λ (z : ClassId). is_under p z p.core.throwable) (sym class) ∙ exceptions_unlinked p ac h apart k' x l at' some)
        by (completions.Return pos) same thrown' found = let never : None ≡ Some c = thrown' in cc
        by (completions.ReturnValue d pos) same thrown' found = let never : None ≡ Some c = thrown' in cc
        by (completions.Break pos) same thrown' found = let never : None ≡ Some c = thrown' in cc
        by (completions.Continue pos) same thrown' found = let never : None ≡ Some c = thrown' in cc

    -- The object is the caller's: it is the one that a `new` made, or the frame that ended owned it
    abbrev pub IsTaken : Type 0
    IsTaken = (y.owner ≡ owners.Frame at) × (((is_new t.action ≡ true) × (fr.locals.this ≡ values.Object o)) ⊎ ((x : Object) → object_at h o ≡ Some x → x.owner ≡ owners.Frame (at + 1)))

    abbrev pub IsGivenHere : Type 0
    IsGivenHere = IsBornSo p K (is_renewed p h caller o) older rest after place o y IsTaken

    at_temp : (d : ℕ) → made_place t.action ≡ Some (places.Temp d)
        → (IsSmall (places.Temp d) → root_of K (place_value p K caller.method after.locals (places.Temp d)) ≡ Some o → IsBornSo p K (is_renewed p h caller o) older rest after (places.Temp d) o y IsTaken) → IsGivenHere
    at_temp d same covers =
        let it : places.Temp d ≡ place = single_place-same (places.Temp d) place (ap (λ (x : Option Place). is_made x place) (sym same) ∙ there) in
        subst (λ (z : Place). IsBornSo p K (is_renewed p h caller o) older rest after z o y IsTaken) it (covers (subst IsSmall (sym it) small)
        (subst (λ (z : Place). root_of K (place_value p K caller.method after.locals z) ≡ Some o) (sym it) (ap (root_of K) value ∙ rooted)))

    module _ (normal : e ≡ None) (plain : n.sig.alias ≡ None) where
      edge : t.edge ≡ edges.Go
      edge = back.normal normal

      named_is : (m : MethodId) → called_method t.action ≡ Some m → m ≡ named
      named_is m it = let both : Some m ≡ Some named = sym it ∙ back.calls in (let one : m ≡ named = cc in one)

      -- ---- a `new`

      -- the object that is made is not finished, so it is not linked
      self_is : {m : MethodId} {d c : ℕ} → t.action ≡ actions.New m d c → (made : IsMade p h m fr.locals.this) → root_of K fr.locals.this ≡ Some o → made.0 ≡ o
      self_is it made root' =
          let x = object_there h made.0 (unfinished y.class) made.4 made.2 in
          let unlinked : x.0.link ≡ None = no_link x.0 x.1 in
          let own : root K made.0 ≡ made.0 = roots made.0 (made.4, made.2) ∙ roots_of_links-itself h made.0 x.0 x.1 unlinked in
          sym own ∙ (let both : Some (root K made.0) ≡ Some o = ap (root_of K) (sym made.1) ∙ root' in (let one : root K made.0 ≡ o = cc in one))
        where
          no_link : (x : Object) → object_at h made.0 ≡ Some x → x.link ≡ None
          no_link x at' = by x.link refl
            where
              by : (k : Option Link) → x.link ≡ k → x.link ≡ None
              by None none = none
              by (Some k) some = absurd (true≢false (sym (links made.0 x k at' some).finished ∙ unmade made.0 x (ap is_new it) made.1 at'))

      new_given : (m : MethodId) (d c : ℕ) → t.action ≡ actions.New m d c → root_of K fr.locals.this ≡ Some o → IsGivenHere
      new_given m d c it root' =
          let made = subst (λ (a : Action). IsMadeByNew p h a fr.locals.this) it makes in
          let m_is = named_is m (ap called_method it) in
          let self : fr.locals.this ≡ values.Object o = made.1 ∙ ap values.Object (self_is it made root') in
          let class : n.class ≡ y.class = (let both : Some n.class ≡ Some carried.0.class = sym (ap class_of_method named_at) ∙ sym (ap (λ (z : MethodId). class_of_method (method_at p z)) m_is) ∙ made.3 carried.0
          (ap (object_at h) (let both : values.Object made.0 ≡ values.Object o = sym made.1 ∙ self in (let one : made.0 ≡ o = cc in one)) ∙ carried.1) in (let one : n.class ≡ carried.0.class = cc in one)) ∙ sym carried.2 in
          let done = finished_here p at o fr.locals.this caller.locals m d c (method_at p fr.method) plain_method v h y (unaliased plain) self
          (subst (λ (x : Option ClassId). object_at (returned_heap p at fr.locals.this caller.locals (actions.New m d c) (method_at p fr.method) plain_method v x h) o ≡ Some y) normal
          (subst (λ (a : Action). object_at (returned_heap p at fr.locals.this caller.locals a (method_at p fr.method) plain_method v e h) o ≡ Some y) it now)) in
          let owner = end_new_owner p at fr.locals.this caller.locals t.action (method_at p fr.method) plain_method v e h no_reset unmade o y normal (ap is_new it) (unaliased plain) self now
          done.0 (λ x there'. unmade o x (ap is_new it) self there') in
          at_temp d (ap made_place it) (λ small' root''. (let z = new_covers p h K caller below back.index t back.here V older rest (is_renewed p h caller o) d o y small' root'' m n edge (ap (method_at p) m_is ∙ named_at) plain c it
          (ap (is_heavy_class p) class ∙ heavy)
          (true_of_made p kinds.New t.pos n.class y.class n.sig.first (places.Temp d) y done.0 refl (done.1 ∙ sym (ap (first_set p y.class) fit.first)) (subst (λ (z : ClassId). fits p y.class z ≡ true) (sym class) (within_self (must_of p y.class)))) in
          inl (z.0, z.1, z.2, (owner, inl (ap is_new it, self)))))

      -- ---- a result

      -- the value of the frame's result
      module _ (d : ℕ) (pos : Pos) (end' : q ≡ completions.ReturnValue d pos) (found : root_of K (temp_value fr.locals d) ≡ Some o) where
        result_there : (x : VType) × (run.0.sig.result ≡ Some x)
        result_there =
            let g : GivesResult p st.body (completions.ReturnValue d pos) = subst (GivesResult p st.body) end' (subst (NamesMembers p st.body) is (names_members p ac forms' fr st i s here)) in
            let same : g.0 ≡ run.0 = (let both : Some g.0 ≡ Some run.0 = sym g.1 ∙ ap (method_at p) st.method ∙ run.1 in (let one : g.0 ≡ run.0 = cc in one)) in
            (g.2, ap (λ (z : Method). z.sig.result) (sym same) ∙ g.3)

        room : d < 64
        room = subst (λ (r : Completion). IsSmallTemp (completion_temp r)) end' (subst (IsSmallAction p) is ((ac.fits st.number).steps i (move_of s) st.control (step_there p fr st i s here)))

        owning_run : n.sig.owning_result ≡ true → run.0.sig.owning_result ≡ true
        owning_run owning = go run.0.sig.owning_result n.sig.owning_result (ap (λ (x : Option VType). is_present x && differ run.0.sig.owning_result n.sig.owning_result) (sym result_there.1) ∙ fit.result) owning
          where
            go : (a b : Bool) → differ a b ≡ false → b ≡ true → a ≡ true
            go true b same one = refl
            go false true same one = absurd (true≢false same)
            go false false same one = one

        -- nothing is asked of what such a result may be
        owes_none : (u : VType) → run.0.sig.result ≡ Some u → all_owe_nothing p (Some u) ≡ true → ⊥
        owes_none (types.Obj c) gives' none =
            let object = temp_object d found in
            let valid : IsResult p (Some (types.Obj c)) = subst (IsResult p) gives' (ac.well_formed.valid.typed.methods fr.method run.0 run.1).signature.result in
            let apart' : is_under p p.core.string c ≡ false = apart_from_strings p ac c none valid.0 in
            light_root p ac c none valid.0 h apart object.0 o object.1 carried.0 object.4
            (declared.gives i s d pos run.0 c object.0 object.1 here (is ∙ ap actions.End end') run.1 gives' apart' object.2 object.4) object.3 carried.1 (ap (is_heavy_class p) (sym carried.2) ∙ heavy)
        owes_none (types.Primitive k) gives' none = true≢false (sym none)
        owes_none types.Str gives' none = true≢false (sym none)
        owes_none (types.Arr k) gives' none = true≢false (sym none)
        owes_none types.NullType gives' none = true≢false (sym none)

        module _ (r : ClassId) (result : n.sig.result ≡ Some (types.Obj r)) (owning : n.sig.owning_result ≡ true) (heavy' : is_heavy_class p r ≡ true) where
          not_light : (b : Bool) → is_empty (must_of_optional p (Some result_there.0)) ≡ b → not b ≡ true
          not_light true light = absurd (elim (alike.light owning (ap (λ (x : Option VType). is_empty (must_of_optional p x)) result_there.1 ∙ light)) [
            | inl named_light ↦ true≢false (sym (ap (λ (x : Option VType). is_empty (must_of_optional p x)) (sym result) ∙ named_light) ∙ not-true (is_empty (must_of p r)) heavy')
            | inr none_owes ↦ owes_none result_there.0 result_there.1 (sym (ap (all_owe_nothing p) result_there.1) ∙ none_owes)
          ])
          not_light false some = refl

          -- the fact of the result says that the frame owns it, or its end breaks a rule
          module _ (c : Covers p h false false old (caller ∷ rest) fr o carried.0) (in' : has c.fact.places (places.Temp d) ≡ true) where
            reached : Reach p st.number (relation_of p st.number) c.origin fr.control c.fact
            reached = subst (λ (b : BodyId). Reach p b (relation_of p b) c.origin fr.control c.fact) (same_body c.body st.number (body_id p fr.method) c.id st.id) c.reached

            fine : IsFault (flow p st.number c.origin (actions.End (completions.ReturnValue d pos)) s.edge c.fact) → ⊥
            fine fault = breaks_nothing p ac st.number c.origin i (move_of s) c.fact reached (step_there p fr st i s here)
                (subst (λ (a : Action). IsFault (flow p st.number c.origin a s.edge c.fact)) (sym (is ∙ ap actions.End end')) fault)

            mine : (c.fact.mode ≡ modes.Own) × (is_heavy_class p c.origin.class ≡ true) × (fits_type p c.origin.class (Some result_there.0) ≡ true)
            mine = result_is_owned p st.number c.origin d pos s.edge c.fact result_there.0 (ap at_returns.result_in body_method ∙ result_there.1) (ap alias_in body_method ∙ fit.alias ∙ plain)
                (ap owning_result_in body_method ∙ owning_run owning) in' (or_right (is_heavy_class p c.origin.class) (not (is_empty (must_of_optional p (Some result_there.0)))) (not_light (is_empty (must_of_optional p (Some result_there.0))) refl)) fine

          owned_cover : (c : Covers p h false false old (caller ∷ rest) fr o carried.0) × (has c.fact.places (places.Temp d) ≡ true) × IsOwned p h false false old (caller ∷ rest) fr o carried.0 c
          owned_cover = by (covered (places.Temp d) o carried.0 room refl (temp_root d found) carried.1 (ap (is_heavy_class p) (sym carried.2) ∙ heavy) (bore_before p h K holders o carried.0 y carried.1 carried.3 owes))
            where
              by : IsKeyed p h false false old (caller ∷ rest) fr (places.Temp d) o carried.0 → (c : Covers p h false false old (caller ∷ rest) fr o carried.0) × (has c.fact.places (places.Temp d) ≡ true) × IsOwned p h false false old (caller ∷ rest) fr o carried.0 c
              by (owned c in' key) = (c, in', key)
              by (unowned u) = let it = mine u.covers u.here in
                  absurd (true≢false (sym (own_claims p (method_at p fr.method) u.covers.origin u.covers.fact it.0 it.1) ∙ u.unowned))

          truth : IsTrueOf p carried.0 owned_cover.0.origin owned_cover.0.fact
          truth = let it = mine owned_cover.0 owned_cover.1 in owned_cover.0.true' (own_claims p (method_at p fr.method) owned_cover.0.origin owned_cover.0.fact it.0 it.1) refl (ap (λ (m : Mode). is_held m && lends_this p fr) it.0)

          true_here : IsTrueOf p y (origin_of p kinds.Result t.pos r None) (fact_at (places.Temp d) modes.Own no_names false)
          true_here =
              true_of_result p carried.0 y owned_cover.0.origin owned_cover.0.fact kinds.Result t.pos r (places.Temp d) truth (carried.3 truth.finished).0
              (within_trans (must_of p owned_cover.0.origin.class) (must_of_optional p (Some result_there.0)) (must_of p r) (mine owned_cover.0 owned_cover.1).2 wider)
            where
              wider : set.is_subset (must_of_optional p (Some result_there.0)) (must_of p r) ≡ true
              wider = go (set.is_subset (must_of_optional p (Some result_there.0)) (must_of p r)) refl
                where
                  go : (b : Bool) → set.is_subset (must_of_optional p (Some result_there.0)) (must_of p r) ≡ b → set.is_subset (must_of_optional p (Some result_there.0)) (must_of p r) ≡ true
                  go true fits' = fits'
                  go false none = absurd (true≢false (sym (and_from run.0.sig.owning_result (not (set.is_subset (must_of_optional p run.0.sig.result) (must_of_optional p n.sig.result))) (owning_run owning)
                      (ap not (ap (λ (x : Option VType). set.is_subset (must_of_optional p x) (must_of_optional p n.sig.result)) result_there.1
                      ∙ ap (λ (x : Option VType). set.is_subset (must_of_optional p (Some result_there.0)) (must_of_optional p x)) result ∙ none))) ∙ fit.wider))

          -- the caller owns it when the call has ended
          taken : IsTaken
          taken = (
            end_result_owner p at fr.locals.this caller.locals t.action (method_at p fr.method) plain_method v e h no_reset unmade result_there.0 o carried.0 y normal (ap owning_in run.1 ∙ owning_run owning)
                (ap calls.alias_position run.1 ∙ fit.alias ∙ plain) (ap conducts.result_in run.1 ∙ result_there.1)
                (ap (λ (c : Completion). root_of h (result_value fr.locals (method_at p fr.method) c)) end' ∙ temp_root d found) carried.1
                (and_from (carried.0.finished && not (is_library_owner carried.0.owner)) (set.is_subset (must_of p carried.0.class) (must_of_type p result_there.0))
                (and_from carried.0.finished (not (is_library_owner carried.0.owner)) truth.finished (ap (λ (a : Owner). not (is_library_owner a)) (owned_cover.2.owner refl (ap is_own (mine owned_cover.0 owned_cover.1).0))))
                (within_trans (must_of p carried.0.class) (must_of p owned_cover.0.origin.class) (must_of_type p result_there.0) truth.class (mine owned_cover.0 owned_cover.1).2)) now,
            inr (λ x there'. ap (λ (z : Object). z.owner) (let both : Some x ≡ Some carried.0 = sym there' ∙ carried.1 in (let one : x ≡ carried.0 = cc in one)) ∙ owned_cover.2.owner refl (ap is_own (mine owned_cover.0 owned_cover.1).0)
                ∙ ap owners.Frame (let number : length (caller ∷ rest) + 1 ≡ length rest + 1 + 1 = omega arith in number)),
          )

        result_given : (m : MethodId) (d' c : ℕ) (f : TargetForm) → t.action ≡ actions.Call m d' c f → IsGivenHere
        result_given m d' c f it = by n.sig.result refl
          where
            as_taken : (r : ClassId) (z : Place) → n.sig.result ≡ Some (types.Obj r) → IsBornSo p K (is_renewed p h caller o) older rest after z o y ((n.sig.owning_result ≡ true) × (is_heavy_class p r ≡ true)) → IsBornSo p K (is_renewed p h caller o) older rest after z o y IsTaken
            as_taken r z result (inl (c, in', unheld, own)) = inl (c, in', unheld, taken r result own.0 own.1)
            as_taken r z result (inr u) = inr u

            of_class : (r : ClassId) → n.sig.result ≡ Some (types.Obj r) → IsGivenHere
            of_class r result = at_temp d' (ap made_place it) (λ small' root''. as_taken r (places.Temp d') result
                (result_covers p h K caller below back.index t back.here V older rest (is_renewed p h caller o) d' o y small' root'' m n edge (ap (method_at p) (named_is m (ap called_method it)) ∙ named_at) plain
                c f r it result (λ owning heavy'. subst (λ (first : Option Names). IsTrueOf p y (origin_of p kinds.Result t.pos r first) (fact_at (places.Temp d') modes.Own no_names false)) (sym fit.first)
                (owned_at r result owning heavy'))))
              where
                owned_at : (r' : ClassId) → n.sig.result ≡ Some (types.Obj r') → n.sig.owning_result ≡ true → is_heavy_class p r' ≡ true → IsTrueOf p y (origin_of p kinds.Result t.pos r' None) (fact_at (places.Temp d') modes.Own no_names false)
                owned_at r' result' owning heavy' = let truth = true_here r' result' owning heavy' in
                    record { finished = truth.finished; class = truth.class; bounded = truth.bounded; need = truth.need; called = truth.called }

            of_none : (x : VType) → n.sig.result ≡ Some x → is_class_type x ≡ false → ⊥
            of_none x result none =
                true≢false (sym (ap (is_heavy_class p) (sym carried.2) ∙ heavy)
                ∙ texts (temp_value fr.locals d) o carried.0
                (subst (λ (r : Completion). IsNoObjectButText p h (result_value fr.locals (method_at p fr.method) r)) end'
                (returned_value_is_no_object (is_text p h) p ac fr keeps i s q here is (ap (thrown_in fr.locals) end')
                ((gives back.index t named back.here back.calls).0 (subst (λ (z : Option Method). NoObject (result_of z)) (sym named_at) (subst NoObject (sym result) none))))) (temp_root d found) carried.1)

            by : (x : Option VType) → n.sig.result ≡ x → IsGivenHere
            by None result = absurd (let never : None ≡ Some result_there.0 = sym (alike.none result) ∙ result_there.1 in cc)
            by (Some (types.Obj r)) result = of_class r result
            by (Some (types.Primitive k)) result = absurd (of_none (types.Primitive k) result refl)
            by (Some types.Str) result = absurd (of_none types.Str result refl)
            by (Some (types.Arr k)) result = absurd (of_none (types.Arr k) result refl)
            by (Some types.NullType) result = absurd (of_none types.NullType result refl)

      call_given : (m : MethodId) (d' c : ℕ) (f : TargetForm) → t.action ≡ actions.Call m d' c f → root_of K v ≡ Some o → IsGivenHere
      call_given m d' c f it found = by q refl normal found
        where
          by : (r : Completion) → q ≡ r → exception_class p h (thrown_in fr.locals r) ≡ None → root_of K (result_value fr.locals (method_at p fr.method) r) ≡ Some o → IsGivenHere
          by (completions.ReturnValue d pos) same none found' = result_given d pos same found' m d' c f it
          by (completions.Return pos) same none found' = absurd (default_no_root K _ o found')
          by (completions.Throw d k pos) same none found' =
              let object = temp_object d found' in
              absurd (let never : None ≡ Some object.1.class = sym none ∙ ap (runtime_class p h) object.2 ∙ ap class_in object.4 in cc)
          by (completions.Break pos) same none found' = absurd (let never : None ≡ Some o = found' in cc)
          by (completions.Continue pos) same none found' = absurd (let never : None ≡ Some o = found' in cc)

      given_normally : root_of K (answered fr.locals.this t.action v None) ≡ Some o → IsGivenHere
      given_normally root' = go t.action refl (ap (λ (a : Action). root_of K (answered fr.locals.this a v None)) refl ∙ root')
        where
          go : (a : Action) → t.action ≡ a → root_of K (answered fr.locals.this a v None) ≡ Some o → IsGivenHere
          go actions.Skip it found = absurd (subst IsCallRow it back.row)
          go (actions.New m d c) it found = new_given m d c it found
          go (actions.Super m d c) it found = absurd (let never : None ≡ Some o = found in cc)
          go (actions.Call m d c f) it found = call_given m d c f it found
          go a it found = absurd (subst IsCallRow it back.row)

    -- where the signature has no alias
    pub given : n.sig.alias ≡ None → IsGivenHere
    given plain = by e refl
      where
        by : (x : Option ClassId) → e ≡ x → IsGivenHere
        by (Some c) thrown = absurd (thrown_light c thrown (ap (λ (x : Option ClassId). root_of K (answered fr.locals.this t.action v x)) (sym thrown) ∙ rooted))
        by None normal = given_normally normal plain (ap (λ (x : Option ClassId). root_of K (answered fr.locals.this t.action v x)) (sym normal) ∙ rooted)
