-- A frame that stands at a call which creates the obligation of `this` anew, and names it so: the fact of `this` has the call's target, so it is lent; and the frame runs a constructor, or a method that creates the
-- obligation of `this` anew.
use Rattle.std.proofs.Common.{◌≡◌, ◌⊎◌, inl, inr, ap, refl, sym, ◌∙◌, arith, nat_le, nat_lt, ℕ, ◌+◌, ◌<◌, Bool, true, false, not, ◌&&◌, ◌||◌, true≢false, Option, Some, None, List, slice_get, subst}
use Rattle.std.specs.Prelude.{if◌then◌else◌}
use Rattle.std.proofs.lemmas.Bool.{and_from}
use Rattle.std.proofs.lemmas.Bool.Decides.{nat_tests}
use Rattle.program_model.specs.declared.kinds.BodyId.{BodyId}
use Rattle.program_model.specs.declared.kinds.ClassId.{ClassId}
use Rattle.program_model.specs.declared.kinds.MethodId.{MethodId}
use Rattle.program_model.specs.declared.program.Method.{Method}
use Rattle.program_model.specs.declared.program.Program.{Program}
use Rattle.program_model.specs.Lookups.{method_at}
use Rattle.program_model.specs.Overrides.{is_library}
use Rattle.program_model.specs.SuperTests.{is_under}
use Rattle.ledger_obligations.specs.Bodies.{constructs, is_constructor_kind, reset_in}
use Rattle.ledger_obligations.specs.MustCallSets.{is_heavy_class}
use Rattle.ownership_rules.specs.Callees.{callee, is_this_target}
use Rattle.ownership_rules.specs.Facts.{has, has_temp, is_own}
use Rattle.ownership_rules.specs.Signatures.{is_position}
use Rattle.ownership_rules.specs.SmallActions.{IsSmallAction}
use Rattle.java_control.specs.Calls.{called_method, is_reset_of_this, temp_at}
use Rattle.java_control.specs.Control.{Step}
use Rattle.control_actions.specs.declared.action.Action.{Action}
use Rattle.control_actions.specs.declared.action.Action.TheVariants as actions
use Rattle.control_actions.specs.declared.action.TargetForm.TheVariants as call_forms
use Rattle.control_actions.specs.declared.fact.OriginKind.TheVariants as kinds
use Rattle.control_actions.specs.declared.place.Place.TheVariants as places
use Rattle.ledger_state.specs.Contents.{HeapContents}
use Rattle.ledger_state.specs.Heaps.{object_at, root_of, unfinished}
use Rattle.ledger_state.specs.declared.entry.Owner.{Owner}
use Rattle.ledger_state.specs.declared.object.Link.{Link}
use Rattle.ledger_state.specs.declared.object.Object.{Object}
use Rattle.ledger_state.specs.declared.value.Value.TheVariants as values
use Rattle.value_laws.specs.Accept.{Accept}
use Rattle.value_laws.specs.Agreement.{Stands}
use Rattle.value_laws.specs.Anew.{holds_target, is_target}
use Rattle.value_laws.specs.Choosing.{body_id, frame_steps}
use Rattle.value_laws.specs.Configuration.{Frame}
use Rattle.value_laws.specs.Lending.{may_be_lent}
use Rattle.value_laws.specs.Outcomes.{IsCallRow}
use Rattle.value_laws.specs.Paths.{Reach, move_of, relation_of}
use Rattle.value_laws.specs.PlaceFacts.{Covers, IsCovered, MakesNoAlias, MayStore, OwesOrHolds, is_lent}
use Rattle.value_laws.specs.PlainForms.{HasPlainForms}
use Rattle.value_laws.specs.Renewing.{HasOwningField, reopens}
use Rattle.value_laws.specs.StepTargets.{FindsIt, HasThis}
use Rattle.ledger_state.specs.Values.{number_of}
use Rattle.value_laws.proofs.Chains.{object_there}
use Rattle.value_laws.specs.Ranges.{LocalsInRange}
use Rattle.value_laws.specs.ClassValues.{IsOnInstance}
use Rattle.value_laws.specs.Frames.{KeepsTargets, holds_this}
use Rattle.value_laws.proofs.TargetBegun.{finds}
use Rattle.covering_laws.specs.Sight.{ActsInSight}
use Rattle.value_laws.proofs.FactOrigins.{this_own}
use Rattle.value_laws.proofs.ResetTargets.{lent_facts}
use Rattle.value_laws.proofs.RootLaws.{root_itself}
use Rattle.value_laws.proofs.ThisTemps.{finds_fact}
use Rattle.covering_laws.specs.Linking.{GivesClass, IsGivenAsAlias, LinkedAreAliases}
use Rattle.covering_laws.proofs.Bodies.{running_method}
use Rattle.covering_laws.proofs.Following.{same_body, small_step, step_there}
use Rattle.covering_laws.proofs.HeavyFields.{claims_by, claims_owned, covered_at}
use Rattle.covering_laws.proofs.IdleCalls.{LendsItsOwn}
use Rattle.covering_laws.proofs.ThisOperands.{on_this, reset_of_this_is}
use Rattle.covering_laws.proofs.UnlinkedThis.{aliases_reset_nothing}
use Rattle.covering_laws.proofs.WaitingTargets.{target_mode, this_kind}

is_first : (d n : ℕ) → 0 < n → d < 64 → (nat_lt 0 n && nat_le (d + 0) 4294967295) ≡ true
is_first d n some low = grind (arith, nat_tests)

first_operand : (d n : ℕ) → 0 < n → d < 64 → temp_at d n 0 ≡ Some d
first_operand d n some low = ap (λ (t : Bool). if t then Some (d + 0) else None) (is_first d n some low) ∙ ap Some (let same : d + 0 ≡ d = omega arith in same)

module _ (p : Program) (ac : Accept p) (forms : HasPlainForms p) (h : HeapContents) (fr : Frame) (st : Stands p fr) (i : ℕ) (s : Step) (here : slice_get (frame_steps p fr) i ≡ Some s) (resets : is_reset_of_this p s.action ≡ true) where
  call : IsCallRow s.action × (is_this_target s.action ≡ true) × (reset_in (callee p s.action) ≡ Some 0)
  call = reset_of_this_is p s.action resets

  run : (m : Method) × (method_at p fr.method ≡ Some m) × (is_library p m.class ≡ false)
  run = running_method p ac fr st

  -- ---- the fact of `this`

  module _ (away anew : Bool) (old : ℕ → Bool) (frs : List Frame) (o : ℕ) (x : Object) (c : Covers p h away anew old frs fr o x) (this : has c.fact.places places.This ≡ true) where
    reach : Reach p st.number (relation_of p st.number) c.origin fr.control c.fact
    reach = subst (λ (b : BodyId). Reach p b (relation_of p b) c.origin fr.control c.fact) (same_body c.body st.number (body_id p fr.method) c.id st.id) c.reached

    kind : c.origin.kind ≡ kinds.ThisRef
    kind = this_kind c.origin.kind (this_own p ac st.number st.body st.at c.origin fr.control c.fact reach this)

    of : method_at p st.body.method ≡ Some run.0
    of = ap (method_at p) st.method ∙ run.1

    -- it has the target
    target : is_target p s.action c.fact.places ≡ true
    target = ap (holds_target s.action c.fact.places) call.2 ∙ go s.action refl call.1
      where
        by_form : (m : MethodId) (d n : ℕ) → d < 64 → ((d < 64 → has c.fact.places (places.Temp d) ≡ true) × (0 < n)) → has_temp c.fact.places (temp_at d n 0) ≡ true
        by_form m d n low found = ap (has_temp c.fact.places) (first_operand d n found.1 low) ∙ found.0 low

        finds : (a : Action) → s.action ≡ a → FindsIt p st.body a (λ (d : ℕ). d < 64 → has c.fact.places (places.Temp d) ≡ true)
        finds a is = subst (λ (b : Action). FindsIt p st.body b (λ (d : ℕ). d < 64 → has c.fact.places (places.Temp d) ≡ true)) is
            (finds_fact p ac st.number st.body run.0 st.at of c.origin fr.control c.fact reach kind i (move_of s) (step_there p fr st i s here))

        go : (a : Action) → s.action ≡ a → is_this_target a ≡ true → holds_target s.action c.fact.places (Some 0) ≡ true
        go (actions.Call m d n call_forms.This) is on =
            let found = finds (actions.Call m d n call_forms.This) is in
            ap (λ (b : Action). holds_target b c.fact.places (Some 0)) is ∙ by_form m d n (subst (IsSmallAction p) is (small_step p ac fr st i s here)).0 (found.0, found.2)
        go (actions.Call m d n call_forms.Super) is on =
            let found = finds (actions.Call m d n call_forms.Super) is in
            ap (λ (b : Action). holds_target b c.fact.places (Some 0)) is ∙ by_form m d n (subst (IsSmallAction p) is (small_step p ac fr st i s here)).0 (found.0, found.2)
        go (actions.Call m d n call_forms.Static) is on = absurd (true≢false (sym on))
        go (actions.Call m d n call_forms.Other) is on = absurd (true≢false (sym on))
        go a is on = absurd (true≢false (sym on))

    lends : is_lent p (method_at p fr.method) c.origin.kind ≡ true
    lends = ap (is_lent p (method_at p fr.method)) kind ∙ ap (λ (z : Option Method). is_lent p z kinds.ThisRef) run.1

    -- a constructor, or a method that creates the obligation of `this` anew
    says : (y : Bool) → is_constructor_kind run.0.kind ≡ y → (is_constructor_kind run.0.kind || is_position run.0.sig.reset 0) ≡ true → (constructs (method_at p fr.method) ≡ true) ⊎ (reopens (method_at p fr.method) ≡ true)
    says true makes is = inl (ap constructs run.1 ∙ makes)
    says false other is = inr (ap reopens run.1 ∙ and_from (not (is_constructor_kind run.0.kind)) (is_position run.0.sig.reset 0) (ap not other) (sym (ap (λ (b : Bool). b || is_position run.0.sig.reset 0) other) ∙ is))

    pub opens_by : (constructs (method_at p fr.method) ≡ true) ⊎ (reopens (method_at p fr.method) ≡ true)
    opens_by = elim (target_mode p ac h fr old frs st i s here call.0 away anew o x c target) [
      | inl claimed ↦ elim (claims_by p (method_at p fr.method) c.origin c.fact claimed) [
        | inl own ↦ absurd (true≢false (sym (and_from (is_heavy_class p c.origin.class) (is_own c.fact.mode) (claims_owned p (method_at p fr.method) c.origin c.fact claimed).0 own) ∙ (c.lent lends).0))
        | inr held ↦ inl ((c.lent lends).1 held.0).0
      ]
      | inr lent ↦ says (is_constructor_kind run.0.kind) refl
          (sym (ap (may_be_lent run.0) kind) ∙ lent_facts p st.number st.body run.0 st.at of c.origin fr.control c.fact reach lent)
    ]

  -- so it is where the root of `this` may owe a call, or a field of it holds something, or may hold something
  module _ (gives : ℕ → ClassId → Bool) (renewed : ℕ → Owner → Bool) (old : ℕ → Bool) (frs : List Frame) (covered : IsCovered p h gives renewed old frs fr) where
    pub opens_at : (o : ℕ) (x : Object) → root_of h fr.locals.this ≡ Some o → object_at h o ≡ Some x → is_heavy_class p x.class ≡ true → OwesOrHolds p h o x → (constructs (method_at p fr.method) ≡ true) ⊎ (reopens (method_at p fr.method) ≡ true)
    opens_at o x root at heavy owes =
        let c = covered_at p h (gives o x.class) (renewed o x.owner) old frs fr places.This o x (covered places.This o x tt refl root at heavy owes) in
        opens_by (gives o x.class) (renewed o x.owner) old frs o x c.0 c.1

    -- ---- `this`

    module _ (linked : LinkedAreAliases p h) (w : ℕ) (y : Object) (this : fr.locals.this ≡ values.Object w) (at : object_at h w ≡ Some y) (under : (m : Method) → method_at p fr.method ≡ Some m → is_under p y.class m.class ≡ true)
        (above : (n : Method) → callee p s.action ≡ Some n → is_under p y.class n.class ≡ true) (m : Method) (runs : method_at p fr.method ≡ Some m) (heavy : is_heavy_class p m.class ≡ true) (owning : HasOwningField p m.class) where
      -- it is of the class of the method
      class : y.class ≡ m.class
      class = let f = owning in forms.alone y.class f.0 f.1 f.2 f.3 (ap (is_under p y.class) f.4 ∙ under m runs) ∙ f.4

      one : run.0 ≡ m
      one = let both : Some run.0 ≡ Some m = sym run.1 ∙ runs in cc

      no_library : is_library p y.class ≡ false
      no_library = ap (is_library p) (class ∙ ap (λ (z : Method). z.class) (sym one)) ∙ run.2

      -- the method that the call names
      named : (r : MethodId) × (n : Method) × (method_at p r ≡ Some n) × (callee p s.action ≡ Some n) × (is_position n.sig.reset 0 ≡ true)
      named = go s.action refl call.1
        where
          by : (r : MethodId) (d k : ℕ) (form : _) (z : Option Method) → s.action ≡ actions.Call r d k form → method_at p r ≡ z → reset_in z ≡ Some 0
              → (r : MethodId) × (n : Method) × (method_at p r ≡ Some n) × (callee p s.action ≡ Some n) × (is_position n.sig.reset 0 ≡ true)
          by r d k form None is at' none = absurd (let never : None ≡ Some 0 = none in cc)
          by r d k form (Some n) is at' reset = (r, n, at', ap (callee p) is ∙ at', ap (λ (q : Option ℕ). is_position q 0) reset)

          go : (a : Action) → s.action ≡ a → is_this_target a ≡ true → (r : MethodId) × (n : Method) × (method_at p r ≡ Some n) × (callee p s.action ≡ Some n) × (is_position n.sig.reset 0 ≡ true)
          go (actions.Call r d k form) is on = by r d k form (method_at p r) is refl (sym (ap (λ (b : Action). reset_in (callee p b)) is) ∙ call.2)
          go (actions.New r d k) is on = absurd (true≢false (sym on))
          go (actions.Super r d k) is on = absurd (true≢false (sym on))
          go a is on = absurd (true≢false (sym on))

      no_alias : MakesNoAlias p y.class
      no_alias r d at' same makes = by d.sig.alias refl
        where
          by : (k : Option ℕ) → d.sig.alias ≡ k → d.sig.alias ≡ None
          by None none = none
          by (Some k) alias =
              absurd (aliases_reset_nothing p ac named.0 named.1 named.2 named.4 r d k at' (ap (is_library p) same ∙ no_library) (ap (λ (e : ClassId). is_under p e named.1.class) same ∙ above named.1 named.3) makes alias)

      given_none : IsGivenAsAlias p y.class → ⊥
      given_none given = by given.class
        where
          by : GivesClass p given.method y.class → ⊥
          by (inl (makes, same)) =
              aliases_reset_nothing p ac named.0 named.1 named.2 named.4 given.number given.method given.position given.at (ap (is_library p) (sym same) ∙ no_library)
              (ap (λ (e : ClassId). is_under p e named.1.class) (sym same) ∙ above named.1 named.3) makes given.alias
          by (inr (e, result, wide, of, library)) = true≢false (sym library ∙ no_library)

      unlinked : y.link ≡ None
      unlinked = by y.link refl
        where
          by : (l : Option Link) → y.link ≡ l → y.link ≡ None
          by None none = none
          by (Some l) some = absurd (given_none (linked w y l at some))

      stores : MayStore p y.class
      stores = (no_library, (let f = owning in (f.0, f.1, f.2, f.3, f.4 ∙ sym class)), no_alias)

      opens_here : (constructs (method_at p fr.method) ≡ true) ⊎ (reopens (method_at p fr.method) ≡ true)
      opens_here = opens_at w y (ap (root_of h) this ∙ ap Some (root_itself h w y at unlinked)) at (ap (is_heavy_class p) class ∙ heavy) (inr (inr stores))

-- a frame that stands at such a call in a class with an obligation and owning fields
lending_opens : (p : Program) → Accept p → HasPlainForms p → (h : HeapContents) → LinkedAreAliases p h → (fr : Frame) → Stands p fr → (i : ℕ) (s : Step) → slice_get (frame_steps p fr) i ≡ Some s
    → (gives : ℕ → ClassId → Bool) (renewed : ℕ → Owner → Bool) (old : ℕ → Bool) (frs : List Frame) → IsCovered p h gives renewed old frs fr
    → (is_reset_of_this p s.action ≡ true → (w : ℕ) × (y : Object) × (fr.locals.this ≡ values.Object w) × (object_at h w ≡ Some y) × ((m : Method) → method_at p fr.method ≡ Some m → is_under p y.class m.class ≡ true)
    × ((n : Method) → callee p s.action ≡ Some n → is_under p y.class n.class ≡ true)) → LendsItsOwn p fr s
lending_opens p ac forms h linked fr st i s here gives renewed old frs covered on resets m runs heavy owning =
    let it = on resets in
    opens_here p ac forms h fr st i s here resets gives renewed old frs covered linked it.0 it.1 it.2 it.3 it.4 it.5 m runs heavy owning

-- so it is by what is seen of the call
module _ (p : Program) (ac : Accept p) (forms : HasPlainForms p) (h : HeapContents) (linked : LinkedAreAliases p h) (fr : Frame) (mine : LocalsInRange h fr.locals) (st : Stands p fr) (targets : KeepsTargets p fr) (sight : ActsInSight p h fr)
    (i : ℕ) (s : Step) (here : slice_get (frame_steps p fr) i ≡ Some s) (instance : is_reset_of_this p s.action ≡ true → IsOnInstance p h fr.locals s.action (callee p s.action)) where
  module _ (resets : is_reset_of_this p s.action ≡ true) where
    has_this : HasThis (method_at p fr.method)
    has_this = go s.action refl (reset_of_this_is p s.action resets).1
      where
        finds_it : (a : Action) → s.action ≡ a → FindsIt p targets.body a (holds_this fr.locals)
        finds_it a is = subst (λ (b : Action). FindsIt p targets.body b (holds_this fr.locals)) is (finds p ac fr targets i s here)

        of : HasThis (method_at p targets.body.method) → HasThis (method_at p fr.method)
        of runs = subst (λ (m : MethodId). HasThis (method_at p m)) targets.method runs

        go : (a : Action) → s.action ≡ a → is_this_target a ≡ true → HasThis (method_at p fr.method)
        go (actions.Call m d n call_forms.This) is on = of (finds_it (actions.Call m d n call_forms.This) is).1
        go (actions.Call m d n call_forms.Super) is on = of (finds_it (actions.Call m d n call_forms.Super) is).1
        go (actions.Call m d n call_forms.Static) is on = absurd (true≢false (sym on))
        go (actions.Call m d n call_forms.Other) is on = absurd (true≢false (sym on))
        go a is on = absurd (true≢false (sym on))

    w : (n : ℕ) × (fr.locals.this ≡ values.Object n)
    w = sight.on has_this

    y : (x : Object) × (object_at h w.0 ≡ Some x)
    y = let number = mine.this w.0 (ap number_of w.1) in let class : ClassId = record { 0 = 0 } in object_there h w.0 (unfinished class) number.0 number.1

    above : (n : Method) → callee p s.action ≡ Some n → is_under p y.0.class n.class ≡ true
    above n called = go s.action refl (reset_of_this_is p s.action resets).1
      where
        reset : n.sig.reset ≡ Some 0
        reset = sym (ap reset_in called) ∙ (reset_of_this_is p s.action resets).2

        by : (r : MethodId) (a : Action) → s.action ≡ a → called_method a ≡ Some r → callee p a ≡ method_at p r → is_under p y.0.class n.class ≡ true
        by r a is named same =
            let at : callee p s.action ≡ method_at p r = ap (callee p) is ∙ same in
            sight.receives i s r n w.0 y.0 here (ap called_method is ∙ named) (sym at ∙ called) reset (subst (IsOnInstance p h fr.locals s.action) at (instance resets))
            (on_this p ac fr st targets i s here (reset_of_this_is p s.action resets).1 ∙ w.1) w.1 y.1

        go : (a : Action) → s.action ≡ a → is_this_target a ≡ true → is_under p y.0.class n.class ≡ true
        go (actions.Call r d k form) is on = by r (actions.Call r d k form) is refl refl
        go (actions.New r d k) is on = absurd (true≢false (sym on))
        go (actions.Super r d k) is on = absurd (true≢false (sym on))
        go a is on = absurd (true≢false (sym on))

  pub lending_in_sight : (gives : ℕ → ClassId → Bool) (renewed : ℕ → Owner → Bool) (old : ℕ → Bool) (frs : List Frame) → IsCovered p h gives renewed old frs fr → LendsItsOwn p fr s
  lending_in_sight gives renewed old frs covered =
      lending_opens p ac forms h linked fr st i s here gives renewed old frs covered
      (λ resets. ((w resets).0, (y resets).0, (w resets).1, (y resets).1, (λ m runs. sight.stands (w resets).0 (y resets).0 m (w resets).1 (y resets).1 runs), above resets))
