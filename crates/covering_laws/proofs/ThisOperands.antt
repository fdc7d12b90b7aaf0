-- The receiver of a call on `this`; and a frame that stands at a call which creates the obligation of `this` anew: this is the object whose obligation the call creates anew.
use Rattle.std.proofs.Common.{◌≡◌, ap, refl, sym, ◌∙◌, ℕ, ◌+◌, ◌<◌, arith, nat_le, nat_lt, Bool, true, false, ◌&&◌, true≢false, Option, Some, None, slice_get, subst, eqb-true}
use Rattle.std.specs.Prelude.{if◌then◌else◌}
use Rattle.std.proofs.lemmas.Bool.Decides.{nat_tests}
use Rattle.program_model.specs.declared.kinds.MethodId.{MethodId}
use Rattle.program_model.specs.declared.program.Method.{Method}
use Rattle.program_model.specs.declared.program.Program.{Program}
use Rattle.program_model.specs.Lookups.{method_at}
use Rattle.ledger_obligations.specs.Bodies.{reset_in}
use Rattle.java_control.specs.Calls.{is_receiver, is_reset_of_this, resets_receiver, temp_at}
use Rattle.java_control.specs.Control.{Step}
use Rattle.control_actions.specs.declared.action.Action.{Action}
use Rattle.control_actions.specs.declared.action.Action.TheVariants as actions
use Rattle.control_actions.specs.declared.action.TargetForm.{TargetForm}
use Rattle.control_actions.specs.declared.action.TargetForm.TheVariants as forms
use Rattle.ownership_rules.specs.Callees.{callee, is_this_target}
use Rattle.ownership_rules.specs.SmallActions.{IsSmallAction}
use Rattle.ledger_state.specs.Contents.{HeapContents}
use Rattle.ledger_state.specs.Heaps.{root_of}
use Rattle.ledger_state.specs.Locals.{temp_in, temp_value}
use Rattle.ledger_state.specs.declared.locals.Locals.{Locals}
use Rattle.ledger_steps.specs.LedgerCallsCalls.{operand_of}
use Rattle.value_laws.specs.Accept.{Accept}
use Rattle.value_laws.specs.Agreement.{Stands}
use Rattle.value_laws.specs.Choosing.{frame_steps}
use Rattle.value_laws.specs.Configuration.{Frame}
use Rattle.value_laws.specs.Frames.{KeepsTargets, holds_this}
use Rattle.value_laws.specs.Outcomes.{IsCallRow}
use Rattle.value_laws.specs.Renewing.{is_renewed, lends_this, renews}
use Rattle.value_laws.specs.StepTargets.{FindsIt}
use Rattle.value_laws.proofs.CallWays.{one_action}
use Rattle.value_laws.proofs.Readings.{renewed_operand}
use Rattle.value_laws.proofs.Ready.{step_here}
use Rattle.value_laws.proofs.TargetBegun.{finds}
use Rattle.value_laws.proofs.Unmet.{call_may}
use Rattle.covering_laws.proofs.Following.{small_step}
use Rattle.covering_laws.proofs.GivenAway.{at_any}

is_first : (d n : ℕ) → 0 < n → d < 64 → (nat_lt 0 n && nat_le (d + 0) 4294967295) ≡ true
is_first d n some low = grind (arith, nat_tests)

pub first_value : (l : Locals) (d n : ℕ) → 0 < n → d < 64 → temp_in l (temp_at d n 0) ≡ temp_value l d
first_value l d n some low =
    ap (λ (t : Bool). temp_in l (if t then Some (d + 0) else None)) (is_first d n some low) ∙ ap (temp_value l) (let same : d + 0 ≡ d = omega arith in same)

-- ---- calls that create the obligation of `this` anew

-- the first operand is that whose obligation the method creates anew
resets_first : (m : Option Method) → resets_receiver m ≡ true → reset_in m ≡ Some 0
resets_first None never = absurd (true≢false (sym never))
resets_first (Some m) is = go m.sig.reset is
  where
    go : (r : Option ℕ) → is_receiver r ≡ true → r ≡ Some 0
    go None never = absurd (true≢false (sym never))
    go (Some k) zero = ap Some (eqb-true k 0 zero)

pub reset_of_this_is : (p : Program) (a : Action) → is_reset_of_this p a ≡ true → IsCallRow a × (is_this_target a ≡ true) × (reset_in (callee p a) ≡ Some 0)
reset_of_this_is p actions.Skip never = absurd (true≢false (sym never))
reset_of_this_is p (actions.Call m d n forms.This) is = (tt, refl, resets_first (method_at p m) is)
reset_of_this_is p (actions.Call m d n forms.Super) is = (tt, refl, resets_first (method_at p m) is)
reset_of_this_is p (actions.Call m d n forms.Static) never = absurd (true≢false (sym never))
reset_of_this_is p (actions.Call m d n forms.Other) never = absurd (true≢false (sym never))
reset_of_this_is p a never = absurd (true≢false (sym never))

-- ---- the receiver

module _ (p : Program) (ac : Accept p) (fr : Frame) (st : Stands p fr) (targets : KeepsTargets p fr) where
  -- that of a call on `this`
  pub on_this : (i : ℕ) (s : Step) → slice_get (frame_steps p fr) i ≡ Some s → is_this_target s.action ≡ true → operand_of fr.locals s.action 0 ≡ fr.locals.this
  on_this i s here on = go s.action refl on
    where
      by_form : (m : MethodId) (d n : ℕ) (form : TargetForm) → s.action ≡ actions.Call m d n form → operand_of fr.locals (actions.Call m d n form) 0 ≡ temp_in fr.locals (temp_at d n 0) → holds_this fr.locals d → 0 < n → operand_of fr.locals s.action 0 ≡ fr.locals.this
      by_form m d n form is first found some =
          let low = (subst (IsSmallAction p) is (small_step p ac fr st i s here)).0 in
          ap (λ (b : Action). operand_of fr.locals b 0) is ∙ first ∙ first_value fr.locals d n some low ∙ found low

      go : (a : Action) → s.action ≡ a → is_this_target a ≡ true → operand_of fr.locals s.action 0 ≡ fr.locals.this
      go (actions.Call m d n forms.This) is on' = let found = subst (λ (b : Action). FindsIt p targets.body b (holds_this fr.locals)) is (finds p ac fr targets i s here) in by_form m d n forms.This is refl found.0 found.2
      go (actions.Call m d n forms.Super) is on' = let found = subst (λ (b : Action). FindsIt p targets.body b (holds_this fr.locals)) is (finds p ac fr targets i s here) in by_form m d n forms.Super is refl found.0 found.2
      go (actions.Call m d n forms.Static) is on' = absurd (true≢false (sym on'))
      go (actions.Call m d n forms.Other) is on' = absurd (true≢false (sym on'))
      go actions.Skip is on' = absurd (true≢false (sym on'))
      go a is on' = absurd (true≢false (sym on'))

  -- what the frame creates the obligation of anew while it lends `this` is the root of `this`
  pub lends_target : (h : HeapContents) (o : ℕ) → lends_this p fr ≡ true → is_renewed p h fr o ≡ true → root_of h fr.locals.this ≡ Some o
  lends_target h o lends renewed =
      let t = at_any (λ (u : Step). is_reset_of_this p u.action) (frame_steps p fr) lends in
      let u = at_any (λ (v : Step). renews p h fr.locals v.action o) (frame_steps p fr) renewed in
      let is = reset_of_this_is p t.1.action t.3 in
      let one : u.1.action ≡ t.1.action = one_action p st.number fr.control t.0 u.0 t.1 u.1 (step_here p fr st t.0 t.1 t.2) (step_here p fr st u.0 u.1 u.2) (call_may t.1.action is.0) in
      let k = renewed_operand p h fr.locals t.1.action o (ap (λ (a : Action). renews p h fr.locals a o) (sym one) ∙ u.3) in
      let zero : 0 ≡ k.0 = (let both : Some 0 ≡ Some k.0 = sym is.2 ∙ k.1 in cc) in
      ap (root_of h) (sym (on_this t.0 t.1 t.2 is.1)) ∙ ap (λ (n : ℕ). root_of h (operand_of fr.locals t.1.action n)) zero ∙ k.2
