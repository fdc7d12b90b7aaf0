-- Whose obligation the end of a call of the program's method creates anew: that of the root of an operand of the call, and of the finished object whose field owns it, and so on upwards.
-- All other objects are as they would be without the reset.
use Rattle.std.specs.FinSet as set
use Rattle.std.specs.Prelude.{if◌then◌else◌}
use Rattle.std.proofs.Common.{Bool, List, None, Option, Some, ap, eq-eqb, false, option_map, subst, inl, inr, length, refl, sym, true, true≢false, ℕ, ◌+◌, ◌<◌, ◌∙◌, ◌≡◌, ◌⊎◌}
use Rattle.program_model.specs.declared.kinds.ClassId.{ClassId}
use Rattle.program_model.specs.declared.kinds.FieldId.{FieldId}
use Rattle.program_model.specs.declared.kinds.MethodId.{MethodId}
use Rattle.program_model.specs.declared.program.Method.{Method}
use Rattle.program_model.specs.declared.program.Program.{Program}
use Rattle.program_model.specs.Lookups.{method_at}
use Rattle.ledger_obligations.specs.Bodies.{reset_in}
use Rattle.ledger_obligations.specs.MustCallSets.{is_heavy_class, must_of}
use Rattle.java_control.specs.Calls.{called_method}
use Rattle.java_control.specs.Control.{Step}
use Rattle.control_actions.specs.declared.action.Action.{Action}
use Rattle.control_actions.specs.declared.action.Action.TheVariants as actions
use Rattle.ownership_rules.specs.Callees.{callee, callee_in}
use Rattle.ledger_state.specs.Classes.{class_in}
use Rattle.ledger_state.specs.Contents.{HeapContents}
use Rattle.ledger_state.specs.Heaps.{is_reached, object_at, root, root_of, unfinished}
use Rattle.ledger_state.specs.Values.{number_of}
use Rattle.ledger_state.specs.declared.entry.Owner.{Owner}
use Rattle.ledger_state.specs.declared.entry.Owner.TheVariants as owners
use Rattle.ledger_state.specs.declared.object.Link.{Link}
use Rattle.ledger_state.specs.declared.object.Object.{Object}
use Rattle.ledger_state.specs.declared.value.Value.{Value}
use Rattle.ledger_state.specs.declared.value.Value.TheVariants as values
use Rattle.ledger_obligations.specs.Obligations.{all_notes, finished_holder, finished_in, is_frame, is_held_by, noted_object, reset_in as reset_object}
use Rattle.ledger_steps.specs.Ends.{frame_gone, returned_called, returned_heap, returned_roots}
use Rattle.ledger_steps.specs.LedgerCallsCalls.{alias_target, is_alias, object_by, operand_of, receiver_note, reset_position, reset_target}
use Rattle.value_laws.specs.Accept.{Accept}
use Rattle.value_laws.specs.Agreement.{IsMadeAfter, Stands}
use Rattle.value_laws.specs.Chains.{HaveEnds}
use Rattle.value_laws.specs.Choosing.{frame_steps}
use Rattle.value_laws.specs.Configuration.{Frame}
use Rattle.value_laws.specs.FieldContents.{IsBeingMade, IsDispatched, OwningFieldsOwn, is_new}
use Rattle.value_laws.specs.HeapAnew.{HasNoHolder, IsEmptied, finished_root, is_anew_at_end, target_root}
use Rattle.value_laws.specs.Heaps.{GoesOn, HasEarlierLinks, KeepsLinks}
use Rattle.value_laws.specs.Holders.{FieldsGoOnOwning, HoldersAreUnlinked, IsWithin, itself}
use Rattle.value_laws.specs.Nexts.{IsBackStep}
use Rattle.value_laws.specs.PlainForms.{HasPlainForms}
use Rattle.value_laws.specs.ClassValues.{IsOnInstance}
use Rattle.covering_laws.specs.Sight.{ActsInSight}
use Rattle.value_laws.specs.ProgramCalls as program_calls
use Rattle.value_laws.specs.Ranges.{LocalsInRange}
use Rattle.value_laws.specs.Renewing.{is_renewed}
use Rattle.value_laws.proofs.CallNames.{object_with_root}
use Rattle.value_laws.proofs.Chains.{object_there}
use Rattle.value_laws.proofs.EndLinks.{end_links, gone_evolves, gone_links}
use Rattle.value_laws.proofs.EndResets.{end_of_target, made_apart, reached_target, plain_alias_position, renewed_at_end}
use Rattle.value_laws.proofs.Growth.{returned_grows}
use Rattle.value_laws.proofs.HeapLaws.{changed_object_at-object, evolving_heaps-links, roots_go_on-number, roots_go_on-root, roots_of_links-itself}
use Rattle.value_laws.proofs.ObjectLaws.{goes_on_further}
use Rattle.value_laws.proofs.RangeValues.{operand_in_range}
use Rattle.value_laws.proofs.Renewed.{says_nothing, without_reset, reset_keeps}
use Rattle.value_laws.proofs.ResetsUp.{IsResetUp, IsTestedEndTarget, end_is_up, end_reset_rises, holders_go_on}
use Rattle.value_laws.proofs.WaysUp.{StepsUp, ends as ends_up, goes as goes_up, steps_up, within_goes_on}
use Rattle.value_laws.proofs.ResetHeaps.{IsResetOf, reset_empties, reset_root, reset_stays, reset_was, reset_forth}
use Rattle.value_laws.proofs.Returned.{IsFrom, end_back, gone_back, gone_unowned, result_back}
use Rattle.covering_laws.proofs.AlikeHeaps.{AreAlike}
use Rattle.covering_laws.proofs.AnewAtEnds.{AllTurned, IsRisen as Risen, IsTurnedAnew}
use Rattle.covering_laws.proofs.WaitingTargets.{renewed_at_step}
use Rattle.covering_laws.proofs.EndOwners.{IsResult, gone_owner, number_value, same_new, IsHeldBySelf}
use Rattle.covering_laws.proofs.MadeObjects.{grown_fields}
use Rattle.covering_laws.proofs.OwnerSteps.{IsFree}
use Rattle.covering_laws.proofs.RenewedOperands.{step_renews}
use Rattle.value_laws.proofs.Readings.{operand_renews}
use Rattle.covering_laws.proofs.TargetRoots.{same_position, target_value}
use Rattle.covering_laws.proofs.Waiting.{KeepsFields, IsCarried}
use Rattle.covering_laws.proofs.Owners.{KeepsFinished, keeps_finished}

-- the holder of what no field of a finished object owns is not finished
unready_holder : (h : HeapContents) (w : ℕ) (f : FieldId) → finished_holder h (owners.Field w f) ≡ None → finished_in (object_at h w) ≡ false
unready_holder h w f none = go (finished_in (object_at h w)) refl none
  where
    go : (b : Bool) → finished_in (object_at h w) ≡ b → (if b then Some w else None) ≡ None → finished_in (object_at h w) ≡ false
    go true done some = absurd (let never : Some w ≡ None = some in cc)
    go false unready is = unready

module _ (p : Program) (ac : Accept p) (forms : HasPlainForms p) (h : HeapContents) (links : HasEarlierLinks h) (fr caller : Frame) (rest : List Frame) (below : Stands p caller) (sight : ActsInSight p h caller) (dispatched : IsDispatched p h fr caller)
    (making : IsBeingMade p h fr caller) (e : Option ClassId) (v : Value) (t : Step) (named : MethodId) (back : IsBackStep p (frame_steps p caller) e named t) (ends : HaveEnds h) (made_after : IsMadeAfter p caller.locals t.action fr.locals.this)
    (caller_in : LocalsInRange h caller.locals) (own : OwningFieldsOwn p h) where
  abbrev position : ℕ
  position = length rest + 1

  -- the method that the call names
  abbrev pub method : Option Method
  method = method_at p named

  -- the heap when the frame has gone
  abbrev pub g : HeapContents
  g = frame_gone p position fr.locals.this (method_at p fr.method) v e h

  -- the heap that the end would leave without the reset, and the one that it leaves
  abbrev pub kept : HeapContents
  kept = returned_heap p position fr.locals.this caller.locals t.action (method_at p fr.method) (without_reset method) v e h

  abbrev pub left : HeapContents
  left = returned_heap p position fr.locals.this caller.locals t.action (method_at p fr.method) method v e h

  unmade : (w : ℕ) (x : Object) → is_new t.action ≡ true → fr.locals.this ≡ values.Object w → object_at h w ≡ Some x → x.finished ≡ false
  unmade w x new this at' = making back.index t w x back.here new this at'

  unlinked : (w : ℕ) (x : Object) → object_at h w ≡ Some x → x.finished ≡ false → x.link ≡ None
  unlinked w x at' open' = go x.link refl
    where
      go : (k : Option Link) → x.link ≡ k → x.link ≡ None
      go None none = none
      go (Some k) some = absurd (true≢false (sym (links w x k at' some).finished ∙ open'))

  -- ---- when the frame has gone

  -- an object was there
  was_gone : (n : ℕ) (x : Object) → object_at g n ≡ Some x → (z : Object) × (object_at h n ≡ Some z) × GoesOn z x
  was_gone n x now =
      let y = gone_back p position fr.locals.this (method_at p fr.method) v e h n x now in
      let old = result_back p position (method_at p fr.method) v h e n y.0 y.1 in
      (old.before, old.at, goes_on_further old.before y.0 x old.goes_on y.2)

  gone_keeps : KeepsLinks h g
  gone_keeps = evolving_heaps-links h g (gone_evolves p position fr.locals.this (method_at p fr.method) v e h)

  gone_root : (n : ℕ) (x : Object) → object_at h n ≡ Some x → root g n ≡ root h n
  gone_root n x at' = roots_go_on-number h g n x links gone_keeps at'

  pub links_gone : HasEarlierLinks g
  links_gone = gone_links p position fr.locals.this (method_at p fr.method) v e h links

  -- the object of a `new` is not finished, and linked to none
  pub made_free : (w : ℕ) (x : Object) → program_calls.is_new t.action ≡ true → number_of fr.locals.this ≡ Some w → object_at g w ≡ Some x → (x.finished ≡ false) × (x.link ≡ None)
  made_free w x new self now =
      let z = was_gone w x now in
      let open' = unmade w z.0 (same_new t.action new) (number_value fr.locals.this w self) z.1 in
      (z.2.finished ∙ open', z.2.link ∙ unlinked w z.0 z.1 open')

  -- ---- the reset

  pub reset_of : IsResetOf p (returned_called p caller.locals t.action method g) (returned_roots p caller.locals t.action method g) kept left
  reset_of = renewed_at_end p position fr.locals.this caller.locals t.action method e g made_free

  pub was_kept : (n : ℕ) (y : Object) → object_at left n ≡ Some y → (z : Object) × (object_at kept n ≡ Some z) × (y.class ≡ z.class) × (y.link ≡ z.link) × (y.finished ≡ z.finished) × (y.owner ≡ z.owner)
  was_kept = reset_was p (returned_called p caller.locals t.action method g) (returned_roots p caller.locals t.action method g) kept left reset_of

  pub same_roots : (v : Value) → root_of left v ≡ root_of kept v
  same_roots = reset_root p (returned_called p caller.locals t.action method g) (returned_roots p caller.locals t.action method g) kept left reset_of

  pub same_fields : KeepsFields p kept left
  same_fields w f owning =
      grown_fields p h left (returned_grows p position fr.locals.this caller.locals t.action (method_at p fr.method) method v e h) w f owning
      ∙ sym (grown_fields p h kept (returned_grows p position fr.locals.this caller.locals t.action (method_at p fr.method) (without_reset method) v e h) w f owning)

  pub reset_finishes : KeepsFinished kept left
  reset_finishes = keeps_finished kept left (λ n x at' done. (
    reset_object p (returned_called p caller.locals t.action method g) (returned_roots p caller.locals t.action method g) n x,
    reset_forth p (returned_called p caller.locals t.action method g) (returned_roots p caller.locals t.action method g) kept left reset_of n x at',
    (reset_keeps p (returned_called p caller.locals t.action method g) (returned_roots p caller.locals t.action method g) n x).2 ∙ done,
  ))

  pub heaps_alike : AreAlike kept left
  heaps_alike = record {
    forth = λ o x at'. (let it = reset_keeps p (returned_called p caller.locals t.action method g) (returned_roots p caller.locals t.action method g) o x in (
      reset_object p (returned_called p caller.locals t.action method g) (returned_roots p caller.locals t.action method g) o x,
      reset_forth p (returned_called p caller.locals t.action method g) (returned_roots p caller.locals t.action method g) kept left reset_of o x at',
      record { class = it.0; link = it.1; finished = it.2; owner = it.3 },
    ));
    back = λ o y now. (let z = was_kept o y now in (z.0, z.1, record { class = z.2; link = z.3; finished = z.4; owner = z.5 }));
  }

  -- links lead to earlier objects
  pub kept_links : HasEarlierLinks kept
  kept_links = end_links p position fr.locals.this caller.locals t.action (without_reset method) g (says_nothing method) links_gone
      (λ n z new self now. let w = was_gone n z now in
      let open' = unmade n w.0 (same_new t.action new) (number_value fr.locals.this n self) w.1 in
      gone_unowned p position fr.locals.this (method_at p fr.method) v e h n w.0 z w.1 open' (ends.unfinished n w.0 w.1 open') now)
      (λ n j new self to. after_argument t.action refl new made_after n j self (ap (object_by (operand_of caller.locals t.action)) (sym (plain_alias_position method)) ∙ to)) e
    where
      after_argument : (a : Action) → t.action ≡ a → program_calls.is_new t.action ≡ true → IsMadeAfter p caller.locals a fr.locals.this → (n j : ℕ) → number_of fr.locals.this ≡ Some n
          → alias_target (operand_of caller.locals t.action) method ≡ Some j → (0 < j) × (j < n)
      after_argument actions.Skip is' new made n j self to = absurd (true≢false (sym new ∙ ap program_calls.is_new is'))
      after_argument (actions.New m d c) is' new made n j self to = made n j self
          (ap (λ (z : MethodId). alias_target (operand_of caller.locals (actions.New m d c)) (method_at p z)) (let both : Some m ≡ Some named = ap called_method (sym is') ∙ back.calls in (let one : m ≡ named = cc in one))
          ∙ ap (λ (a : Action). alias_target (operand_of caller.locals a) method) (sym is') ∙ to)
      after_argument a is' new made n j self to = absurd (true≢false (sym new ∙ ap program_calls.is_new is'))

  pub left_links : HasEarlierLinks left
  left_links n y link now some =
      let z = was_kept n y now in
      let it = kept_links n z.0 link z.1 (sym z.3 ∙ some) in
      record { there = it.there; before = it.before; owner = z.5 ∙ it.owner; finished = z.4 ∙ it.finished }

  -- ---- its target

  same_callee' : callee p t.action ≡ method
  same_callee' = ap (callee_in p) back.calls

  -- the target is an operand, whose obligation the call creates anew, and finished
  abbrev pub IsTargetHere : ℕ → Type 0
  IsTargetHere o = (is_renewed p h caller o ≡ true) × ((x : Object) → object_at h o ≡ Some x → x.finished ≡ true)
      × ((k : ℕ) × (reset_position method ≡ Some k) × (root_of h (operand_of caller.locals t.action k) ≡ Some o))

  pub target_here : (o : ℕ) → target_root g caller.locals t.action method ≡ Some o → IsTargetHere o
  target_here o found = go (reset_position method) refl found
    where
      go : (k : Option ℕ) → reset_position method ≡ k → finished_root g (object_by (operand_of caller.locals t.action) k) ≡ Some o → IsTargetHere o
      go None none never = absurd (let no' : None ≡ Some o = never in cc)
      go (Some k) some is' = (
        step_renews p h caller back.index t o back.here (operand_renews p h caller.locals t.action o k (ap reset_in same_callee' ∙ same_position method ∙ some) root'),
        (λ x at'. finished_here x at' (object_at g o) refl),
        (k, some, root'),
      )
        where
          found' : (root_of g (operand_of caller.locals t.action k) ≡ Some o) × (finished_in (object_at g o) ≡ true)
          found' = target_value g (operand_of caller.locals t.action k) o is'

          object : (w : ℕ) × (operand_of caller.locals t.action k ≡ values.Object w) × (root g w ≡ o)
          object = object_with_root g (operand_of caller.locals t.action k) o found'.0

          root' : root_of h (operand_of caller.locals t.action k) ≡ Some o
          root' =
              let number = operand_in_range h caller.locals caller_in t.action k object.0 (ap number_of object.1) in
              let class : ClassId = record { 0 = 0 } in
              let there = object_there h object.0 (unfinished class) number.0 number.1 in
              ap (root_of h) object.1 ∙ ap Some (sym (gone_root object.0 there.0 there.1) ∙ object.2)

          finished_here : (x : Object) → object_at h o ≡ Some x → (w : Option Object) → object_at g o ≡ w → x.finished ≡ true
          finished_here x at' None none = absurd (true≢false (sym found'.1 ∙ ap finished_in none))
          finished_here x at' (Some w) now =
              let z = was_gone o w now in
              let one : x ≡ z.0 = (let both : Some x ≡ Some z.0 = sym at' ∙ z.1 in cc) in
              ap (λ (u : Object). u.finished) one ∙ sym z.2.finished ∙ sym (ap finished_in now) ∙ found'.1

  -- ---- who owns it

  -- where a field owns an object when the frame has gone, it did before
  owner_before : (n : ℕ) (x z : Object) → object_at h n ≡ Some z → object_at g n ≡ Some x → (w : ℕ) (f : FieldId) → x.owner ≡ owners.Field w f → z.owner ≡ owners.Field w f
  owner_before n x z before now w f owner = go (gone_owner p position fr.locals.this (method_at p fr.method) v e h n z x before now)
    where
      not_free : IsFree x.owner → ⊥
      not_free free = true≢false (sym (ap (λ (o : Owner). is_held_by o w) owner ∙ eq-eqb w w refl) ∙ free.1 w)

      go : IsResult p position fr.locals.this (method_at p fr.method) v e h n z x ⊎ ((x.owner ≡ z.owner) ⊎ (((is_frame z.owner (position + 1) ≡ true) × IsFree x.owner) ⊎ (IsHeldBySelf fr.locals.this (method_at p fr.method) z.owner × IsFree x.owner)))
          → z.owner ≡ owners.Field w f
      go (inl (u, returned, same')) = absurd (let never : owners.Field w f ≡ owners.Frame position = sym owner ∙ same' ∙ returned.owner in cc)
      go (inr (inl same')) = sym same' ∙ owner
      go (inr (inr (inl frame))) = absurd (not_free frame.1)
      go (inr (inr (inr field))) = absurd (not_free field.1)

  -- what the caller has called is called on an object of the method's class, where the receiver chooses what runs
  on_instance : IsOnInstance p h caller.locals t.action method
  on_instance w z chosen is' named_at =
      let number = operand_in_range h caller.locals caller_in t.action 0 w (ap number_of is') in
      let class : ClassId = record { 0 = 0 } in
      let there = object_there h w (unfinished class) number.0 number.1 in
      (there.0.class, ap class_in there.1, (dispatched back.index t named z w there.0 back.here back.calls named_at chosen is' there.1).1)

  -- the target's root, as the call that the caller has begun tells it
  target_root_here : (n : ℕ) (z : Object) → object_at h n ≡ Some z → IsTargetHere n → target_root h caller.locals t.action method ≡ Some n
  target_root_here n z there target = by (operand_of caller.locals t.action target.2.0) refl target.2.2
    where
      by : (v : Value) → operand_of caller.locals t.action target.2.0 ≡ v → root_of h v ≡ Some n → target_root h caller.locals t.action method ≡ Some n
      by (values.Object w) same root' =
          let one : root h w ≡ n = (let both : Some (root h w) ≡ Some n = root' in cc) in
          ap (λ (k : Option ℕ). finished_root h (object_by (operand_of caller.locals t.action) k)) target.2.1
          ∙ ap (λ (v : Value). finished_root h (number_of v)) same
          ∙ rw (ap (λ (k : ℕ). finished_in (object_at h k)) one ∙ ap finished_in there ∙ target.1 z there) (ap Some one)
      by values.Nothing same root' = absurd (let never : None ≡ Some n = root' in cc)
      by v same root' = absurd (let never : None ≡ Some n = root' in cc)

  module _ (holders : HoldersAreUnlinked (is_heavy_class p) h) where
    -- when the frame has gone, fields own no more than they did
    gone_owns_no_more : FieldsGoOnOwning g h
    gone_owns_no_more n x w f now owner = let z = was_gone n x now in (z.0, z.1, owner_before n x z.0 z.1 now w f owner)

    gone_holders : HoldersAreUnlinked (is_heavy_class p) g
    gone_holders = holders_go_on h g (gone_evolves p position fr.locals.this (method_at p fr.method) v e h) gone_owns_no_more (is_heavy_class p) holders

    abbrev IsHeavyTarget : Type 0
    IsHeavyTarget = IsTestedEndTarget p caller.locals t.action method g links_gone (is_heavy_class p) gone_holders

    -- a target whose class has no obligation is owned by no field
    light_unheld : (n : ℕ) (x : Object) → target_root g caller.locals t.action method ≡ Some n → object_at g n ≡ Some x → is_heavy_class p x.class ≡ false → (o : Owner) → x.owner ≡ o → finished_holder g o ≡ None
    light_unheld n x is' now light (owners.Field w f) owner =
        let z = was_gone n x now in
        let heavy = (own n z.0 w f z.1 (owner_before n x z.0 z.1 now w f owner)).1 (sight.renews back.index t named n z.0 back.here back.calls on_instance (target_root_here n z.0 z.1 (target_here n is')) z.1) in
        absurd (true≢false (sym (ap (is_heavy_class p) z.2.class ∙ heavy) ∙ light))
    light_unheld n x is' now light (owners.Frame j) owner = refl
    light_unheld n x is' now light owners.Library owner = refl
    light_unheld n x is' now light owners.Released owner = refl
    light_unheld n x is' now light owners.Lost owner = refl
    light_unheld n x is' now light owners.Unowned owner = refl

    -- the target's root is of a class with an obligation, or no field of a finished object owns it
    tops : IsHeavyTarget ⊎ HasNoHolder g (target_root g caller.locals t.action method)
    tops = go (reset_target (operand_of caller.locals t.action) method) refl
      where
        by_class : (k : ℕ) → reset_target (operand_of caller.locals t.action) method ≡ Some k → (y : Object) → object_at g (root g k) ≡ Some y → (b : Bool) → is_heavy_class p y.class ≡ b
            → IsHeavyTarget ⊎ HasNoHolder g (target_root g caller.locals t.action method)
        by_class k target y at true heavy = inl (λ j target' z there. (let one : j ≡ k = (let both : Some j ≡ Some k = sym target' ∙ target in cc) in
            let same : y ≡ z = (let both : Some y ≡ Some z = sym at ∙ ap (λ (n : ℕ). object_at g (root g n)) (sym one) ∙ there in cc) in
            ap (λ (u : Object). is_heavy_class p u.class) (sym same) ∙ heavy))
        by_class k target y at false light = inr (λ n z is' there. light_unheld n z is' there (ap (λ (u : Object). is_heavy_class p u.class) (sym (one_root n z is' there)) ∙ light) z.owner refl)
          where
            one_root : (n : ℕ) (z : Object) → target_root g caller.locals t.action method ≡ Some n → object_at g n ≡ Some z → y ≡ z
            one_root n z is' there = by_test (finished_in (object_at g (root g k))) (sym (ap (finished_root g) target) ∙ is')
              where
                by_test : (b : Bool) → (if b then Some (root g k) else None) ≡ Some n → y ≡ z
                by_test true same = (let one : root g k ≡ n = cc in (let both : Some y ≡ Some z = sym at ∙ ap (object_at g) one ∙ there in cc))
                by_test false same = absurd (let never : None ≡ Some n = same in cc)

        by_object : (k : ℕ) → reset_target (operand_of caller.locals t.action) method ≡ Some k → (y : Option Object) → object_at g (root g k) ≡ y
            → IsHeavyTarget ⊎ HasNoHolder g (target_root g caller.locals t.action method)
        by_object k target None at = inl (λ j target' z there. (let one : j ≡ k = (let both : Some j ≡ Some k = sym target' ∙ target in cc) in
            absurd (let never : None ≡ Some z = sym at ∙ ap (λ (n : ℕ). object_at g (root g n)) (sym one) ∙ there in cc)))
        by_object k target (Some y) at = by_class k target y at (is_heavy_class p y.class) refl

        go : (k : Option ℕ) → reset_target (operand_of caller.locals t.action) method ≡ k → IsHeavyTarget ⊎ HasNoHolder g (target_root g caller.locals t.action method)
        go None none = inr (λ n z is' there. absurd (let never : None ≡ Some n = sym (ap (finished_root g) none) ∙ is' in cc))
        go (Some k) target = by_object k target (object_at g (root g k)) refl

    -- ---- what the reset reaches

    -- of what the end creates the obligation anew, its root is finished, and the target's root is within it
    pub reached_up : (n : ℕ) (x : Object) → object_at g n ≡ Some x → is_anew_at_end p caller.locals t.action method g n ≡ true → IsResetUp g (target_root g caller.locals t.action method) n
    reached_up n x at' anew = elim tops [
      | inl tested ↦ end_is_up p caller.locals t.action method g links_gone (is_heavy_class p) gone_holders n x tested at' anew
      | inr free ↦ (let found = end_of_target p caller.locals t.action method g links_gone free n x at' anew in
          record { start = root g n; is_target = found; within = itself (root g n); finished = target_finished (reset_target (operand_of caller.locals t.action) method) (root g n) found })
    ]
      where
        target_finished : (k : Option ℕ) (r : ℕ) → finished_root g k ≡ Some r → finished_in (object_at g r) ≡ true
        target_finished None r none = absurd (let never : None ≡ Some r = none in cc)
        target_finished (Some k) r found = (target_value g (values.Object k) r found).1

    -- the target, which is the object or within it: the caller's call creates its obligation anew; and the object was finished
    abbrev pub IsTurnedUp : ℕ → Type 0
    IsTurnedUp o = (start : ℕ) × IsTargetHere start × IsWithin h start o × ((x : Object) → object_at h o ≡ Some x → x.finished ≡ true)

    -- where the object's class has an obligation, that of the target has one
    pub target_heavy : (o start : ℕ) (x z : Object) → IsTargetHere start → IsWithin h start o → object_at h o ≡ Some x → is_heavy_class p x.class ≡ true → object_at h start ≡ Some z → is_heavy_class p z.class ≡ true
    target_heavy o start x z target up there heavy at' = go (steps_up h start o up)
      where
        go : StepsUp h start o → is_heavy_class p z.class ≡ true
        go (ends_up same) = ap (λ (u : Object). is_heavy_class p u.class) (let both : Some z ≡ Some x = sym at' ∙ ap (object_at h) same ∙ there in (let one : z ≡ x = cc in one)) ∙ heavy
        go (goes_up w f y there' owner rest) =
            let one : z ≡ y = (let both : Some z ≡ Some y = sym at' ∙ there' in cc) in
            (own start z w f at' (ap (λ (u : Object). u.owner) one ∙ owner)).1 (sight.renews back.index t named start z back.here back.calls on_instance (target_root_here start z at' target) at')

    turned_up : (o : ℕ) (w : Object) → object_at g o ≡ Some w → w.link ≡ None → is_anew_at_end p caller.locals t.action method g o ≡ true → IsTurnedUp o
    turned_up o w at' none anew =
        let up = reached_up o w at' anew in
        (up.start, target_here up.start up.is_target, within_goes_on g h up.start o gone_owns_no_more (subst (IsWithin g up.start) itself' up.within), λ x there. done x there)
      where
        itself' : root g o ≡ o
        itself' = roots_of_links-itself g o w at' none

        done : (x : Object) → object_at h o ≡ Some x → x.finished ≡ true
        done x there =
            let z = was_gone o w at' in
            ap (λ (u : Object). u.finished) (let both : Some x ≡ Some z.0 = sym there ∙ z.1 in (let one : x ≡ z.0 = cc in one)) ∙ sym z.2.finished
            ∙ sym (ap finished_in at') ∙ ap (λ (n : ℕ). finished_in (object_at g n)) (sym itself') ∙ (reached_up o w at' anew).finished

    pub as_turned : (o : ℕ) (y : Object) (v : Value) → root_of left v ≡ Some o → object_at left o ≡ Some y → (b : Bool) → is_anew_at_end p caller.locals t.action method g o ≡ b → (z : Object) → object_at kept o ≡ Some z
        → (y ≡ z) ⊎ (IsEmptied p z y × IsTurnedUp o)
    unfolding is_anew_at_end
    as_turned o y v root' now false out z there =
        let stayed = reset_stays p (returned_called p caller.locals t.action method g) (returned_roots p caller.locals t.action method g) kept left reset_of o y out now in
        inl (let both : Some y ≡ Some z = sym stayed ∙ there in cc)
    as_turned o y v root' now true anew z there = by (end_back p position fr.locals.this caller.locals t.action (without_reset method) g (says_nothing method) e o z there)
      where
        link_none : z.link ≡ None
        link_none =
            let was = was_kept o y now in
            let one : was.0 ≡ z = (let both : Some was.0 ≡ Some z = sym was.1 ∙ there in cc) in
            ap (λ (u : Object). u.link) (sym one) ∙ sym was.3 ∙ roots_go_on-root left v o y left_links root' now

        made : program_calls.is_new t.action ≡ true → number_of fr.locals.this ≡ Some o → ⊥
        made new self = true≢false (sym anew ∙ made_apart p position fr.locals.this caller.locals t.action method e g made_free o new self)

        by : IsFrom p position fr.locals.this caller.locals t.action (without_reset method) g (says_nothing method) e o z → (y ≡ z) ⊎ (IsEmptied p z y × IsTurnedUp o)
        by (inl made') = absurd (made made'.2.new made'.2.self)
        by (inr (inl alias)) = absurd (made alias.2.new alias.2.self)
        by (inr (inr noted)) = inr (
          reset_empties p (returned_called p caller.locals t.action method g) (returned_roots p caller.locals t.action method g) kept left reset_of o z y anew there now,
          turned_up o noted.0 noted.1 (ap (λ (u : Object). u.link) noted.2 ∙ link_none) anew,
        )

    -- an object when the call is noted
    abbrev noted_again : ℕ → Object → Object
    noted_again = noted_object (all_notes p g (receiver_note caller.locals t.action method))

    -- the target rises to an object whose class has an obligation
    risen_to : (o : ℕ) (x : Object) → object_at h o ≡ Some x → is_heavy_class p x.class ≡ true → IsTurnedUp o → Risen p h caller.locals t.action o
    risen_to o x before heavy (start, target, within, done) = by (steps_up h start o within)
      where
        of_target : (z : Object) → object_at h start ≡ Some z → Risen p h caller.locals t.action o
        of_target z there = record {
          target = start;
          object = z;
          at = there;
          heavy = (target.1 z there, target_heavy o start x z target within before heavy there);
          renews = renewed_at_step p h caller below back.index t start back.here back.row target.0;
          within = within;
        }

        by : StepsUp h start o → Risen p h caller.locals t.action o
        by (ends_up one) = of_target x (ap (object_at h) one ∙ before)
        by (goes_up w f z there owner more) = of_target z there

    -- each root that a place holds after the call is as it would be without the reset, or is turned anew
    pub all_turned : ((n : ℕ) (x : Object) → object_at kept n ≡ Some x → IsCarried h n x) → AllTurned p h kept left caller.locals t.action
    all_turned was o y u root' now = (z.0, z.1, record { class = z.2; link = z.3; finished = z.4; owner = z.5 }, elim turned [ inl it ↦ inl it | inr anew ↦ inr (as_anew anew.0 anew.1) ])
      where
        z : (w : Object) × (object_at kept o ≡ Some w) × (y.class ≡ w.class) × (y.link ≡ w.link) × (y.finished ≡ w.finished) × (y.owner ≡ w.owner)
        z = was_kept o y now

        before : IsCarried h o z.0
        before = was o z.0 z.1

        turned : (y ≡ z.0) ⊎ (IsEmptied p z.0 y × IsTurnedUp o)
        turned = as_turned o y u root' now (is_anew_at_end p caller.locals t.action method g o) refl z.0 z.1

        as_anew : IsEmptied p z.0 y → IsTurnedUp o → IsTurnedAnew p h caller.locals t.action o z.0 y
        as_anew emptied up = record {
          emptied = emptied;
          was = before.0;
          before = before.1;
          done = up.3 before.0 before.1;
          risen = λ heavy. risen_to o before.0 before.1 (ap (is_heavy_class p) (sym before.2) ∙ heavy) up;
        }

    abbrev pub IsReached : ℕ → Type 0
    IsReached k = is_reached (returned_called p caller.locals t.action method g) (returned_roots p caller.locals t.action method g) k ≡ true

    -- the reset reaches the object, or it is not finished, or nothing was called on it, and all that its class asks for must be
    abbrev pub IsRisen : ℕ → Type 0
    IsRisen w = (finished_in (object_at kept w) ≡ false) ⊎ (IsReached w ⊎ ((z : Object) → object_at kept w ≡ Some z → (z.called ≡ set.empty) × (z.must ≡ must_of p z.class)))

    -- no field of an alias that the `new` makes owns an object with an obligation
    abbrev pub AliasHoldsNone : Type 0
    AliasHoldsNone = (k w : ℕ) (z : Object) (f : FieldId) → object_at h k ≡ Some z → is_heavy_class p z.class ≡ true → z.owner ≡ owners.Field w f → program_calls.is_new t.action ≡ true → is_alias (without_reset method) ≡ true
        → number_of fr.locals.this ≡ Some w → ⊥

    -- With what is linked to none, and created anew, the reset reaches the object whose field owns it, or that is not finished, or the `new` that has ended has just finished it: nothing
    -- was called on that. And it is its own root.
    pub reached_rises : AliasHoldsNone → (n : ℕ) (x : Object) → object_at kept n ≡ Some x → IsReached n → x.link ≡ None
        → (root (returned_called p caller.locals t.action method g) n ≡ n) × ((w : ℕ) (f : FieldId) → is_heavy_class p x.class ≡ true → x.owner ≡ owners.Field w f → IsRisen w)
    reached_rises alone n x now anew none = by (end_back p position fr.locals.this caller.locals t.action (without_reset method) g (says_nothing method) e n x now)
      where
        made : program_calls.is_new t.action ≡ true → number_of fr.locals.this ≡ Some n → ⊥
        made new self = true≢false (sym anew ∙ made_apart p position fr.locals.this caller.locals t.action method e g made_free n new self)

        -- what was not finished when the frame had gone is not, or it is the object of a `new`, of which it was said that it is no alias
        still_unready : (w : ℕ) → finished_in (object_at g w) ≡ false → (program_calls.is_new t.action ≡ true → is_alias (without_reset method) ≡ true → number_of fr.locals.this ≡ Some w → ⊥) → IsRisen w
        still_unready w unready no_alias = go (object_at kept w) refl
          where
            uncalled : (y : Object) → object_at kept w ≡ Some y → y.called ≡ set.empty → y.must ≡ must_of p y.class → IsRisen w
            uncalled y at' empty all = inr (inr (λ z there. (let one : z ≡ y = (let both : Some z ≡ Some y = sym there ∙ at' in cc) in
                (ap (λ (u : Object). u.called) one ∙ empty, ap (λ (u : Object). u.must) one ∙ all ∙ ap (λ (u : Object). must_of p u.class) (sym one)))))

            go : (y : Option Object) → object_at kept w ≡ y → IsRisen w
            go None at' = inl (ap finished_in at')
            go (Some y) at' = elim (end_back p position fr.locals.this caller.locals t.action (without_reset method) g (says_nothing method) e w y at') [
              | inl made' ↦ uncalled y at' made'.2.called (made'.2.must ∙ ap (must_of p) (sym made'.2.class))
              | inr other ↦ elim other [
                | inl alias ↦ absurd (no_alias alias.2.new alias.2.alias alias.2.self)
                | inr noted ↦ inl (ap finished_in at' ∙ ap (λ (u : Object). u.finished) (sym noted.2) ∙ sym (ap finished_in noted.1) ∙ unready)
              ]
            ]

        by : IsFrom p position fr.locals.this caller.locals t.action (without_reset method) g (says_nothing method) e n x
            → (root (returned_called p caller.locals t.action method g) n ≡ n) × ((w : ℕ) (f : FieldId) → is_heavy_class p x.class ≡ true → x.owner ≡ owners.Field w f → IsRisen w)
        by (inl made') = absurd (made made'.2.new made'.2.self)
        by (inr (inl alias)) = absurd (made alias.2.new alias.2.self)
        by (inr (inr noted)) = (roots_of_links-itself (returned_called p caller.locals t.action method g) n (noted_again n noted.0) at_called (ap (λ (u : Object). u.link) noted.2 ∙ none), rises)
          where
            free_link : noted.0.link ≡ None
            free_link = ap (λ (u : Object). u.link) noted.2 ∙ none

            at_called : object_at (returned_called p caller.locals t.action method g) n ≡ Some (noted_again n noted.0)
            at_called = changed_object_at-object noted_again g n ∙ ap (option_map (noted_again n)) noted.1

            -- the object of which it is asked was there before, and a field of the same object owned it
            no_alias : (w : ℕ) (f : FieldId) → is_heavy_class p x.class ≡ true → x.owner ≡ owners.Field w f → program_calls.is_new t.action ≡ true → is_alias (without_reset method) ≡ true → number_of fr.locals.this ≡ Some w → ⊥
            no_alias w f heavy owner new alias self =
                let z = was_gone n noted.0 noted.1 in
                alone n w z.0 f z.1 (ap (is_heavy_class p) (sym z.2.class ∙ ap (λ (u : Object). u.class) noted.2) ∙ heavy) (owner_before n noted.0 z.0 z.1 noted.1 w f (ap (λ (u : Object). u.owner) noted.2 ∙ owner)) new alias self

            rises : (w : ℕ) (f : FieldId) → is_heavy_class p x.class ≡ true → x.owner ≡ owners.Field w f → IsRisen w
            rises w f heavy owner = elim tops [
              | inl tested ↦ elim (end_reset_rises p caller.locals t.action method g links_gone (is_heavy_class p) gone_holders tested n w f (noted_again n noted.0) at_called anew free_link (ap (λ (u : Object). u.owner) noted.2 ∙ owner)) [
                | inl unready ↦ still_unready w unready (no_alias w f heavy owner)
                | inr up ↦ inr (inl up)
              ]
              | inr free ↦ (
                  let found = reached_target p caller.locals t.action method g links_gone free n noted.0 noted.1 anew ∙ ap Some (roots_of_links-itself g n noted.0 noted.1 free_link) in
                  still_unready w (unready_holder g w f (sym (ap (finished_holder g) (ap (λ (u : Object). u.owner) noted.2 ∙ owner)) ∙ free n noted.0 found noted.1)) (no_alias w f heavy owner))
            ]
