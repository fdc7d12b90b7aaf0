-- A frame that begins holds the operands of the call.
use Rattle.std.proofs.Common.{◌≡◌, ℕ, suc, ◌+◌, ◌<◌, ◌≤◌, true, true≢false, Option, Some, List, length, nat_lt, slice_get, refl, sym, ap, ◌∙◌, subst, arith}
use Rattle.std.proofs.lemmas.Bool.{and_parts, ltb-true}
use Rattle.std.proofs.lemmas.List.FromFn.{length-map-range_with_len}
use Rattle.program_model.specs.declared.kinds.MethodId.{MethodId}
use Rattle.program_model.specs.declared.program.Method.{Method}
use Rattle.program_model.specs.declared.program.Program.{Program}
use Rattle.program_model.specs.Lookups.{method_at}
use Rattle.fact_laws.specs.Assigned.{is_spoken_of, is_spoken_variable}
use Rattle.java_control.specs.Control.{Step}
use Rattle.control_actions.specs.declared.action.Action.{Action}
use Rattle.control_actions.specs.declared.action.Action.TheVariants as actions
use Rattle.fact_laws.specs.Accept.{Accept}
use Rattle.ledger_state.specs.Contents.{HeapContents}
use Rattle.ledger_state.specs.Locals.{variable_value}
use Rattle.ledger_state.specs.declared.array.ArrayObject.{ArrayObject}
use Rattle.ledger_state.specs.declared.locals.Locals.{Locals}
use Rattle.ledger_state.specs.declared.value.Value.{Value}
use Rattle.ledger_state.specs.declared.value.Value.TheVariants as values
use Rattle.ledger_steps.specs.LedgerCallsCalls.{argument_values, begun, operand_of, params_in}
use Rattle.ledger_moves.specs.Configuration.{Frame}
use Rattle.ledger_moves.specs.Choosing.{frame_steps}
use Rattle.ledger_steps.specs.CallSteps.{self_begun}
use Rattle.agreement.specs.Agreement.{Stands}
use Rattle.fact_laws.specs.Outcomes.{IsCallRow}
use Rattle.fact_laws.proofs.CallWays.{one_action}
use Rattle.frame_laws.proofs.Entries.{HasBegun, argument_at, has_begun, same_count}
use Rattle.frame_laws.proofs.Ready.{step_here}
use Rattle.frame_laws.proofs.Unmet.{call_may}
use Rattle.frame_laws.specs.Nexts.{IsStartMove}
use Rattle.frame_laws.specs.Arguments.{HasArguments, has_receiver}

-- what begins with an object for its receiver has it for `this`: a `new` has no receiver
receiver_is_this : (h : HeapContents) (l : Locals) (a : Action) (w : ℕ) → operand_of l a 0 ≡ values.Object w → self_begun l a h ≡ values.Object w
receiver_is_this h l actions.Skip w is = is
receiver_is_this h l (actions.New m d n) w is = absurd (let never : values.Nothing ≡ values.Object w = is in cc)
receiver_is_this h l a w is = is

-- and each other call has it in any case
this_is_receiver : (h : HeapContents) (l : Locals) (a : Action) → has_receiver a ≡ true → self_begun l a h ≡ operand_of l a 0
this_is_receiver h l actions.Skip has = refl
this_is_receiver h l (actions.New m d n) has = absurd (true≢false (sym has))
this_is_receiver h l a has = refl

module _ (p : Program) (ac : Accept p) (h : HeapContents) (arrays : List ArrayObject) (fr : Frame) (st : Stands p fr) (named runs : MethodId) (a : Action)
    (next : IsStartMove p h arrays fr.locals (frame_steps p fr) named runs a) where
  abbrev self : Value
  self = self_begun fr.locals a h

  abbrev given : List Value
  given = argument_values fr.locals a (method_at p named)

  abbrev callee : Frame
  callee = begun p runs self given

  count : length (params_in (method_at p named)) ≡ length next.running.sig.params.items
  count = ap (λ (m : Option Method). length (params_in m)) next.named_at ∙ sym (same_count next.running.sig.params.items next.method.sig.params.items next.fit.types)

  few : length given ≤ length next.running.sig.params.items
  few =
      let long = length-map-range_with_len (operand_of fr.locals a) 1 (length (params_in (method_at p named))) in
      let same = count in
      omega (arith, long, same)

  pub started : HasBegun p callee runs next.running self given
  started = has_begun p ac runs self given next.running next.running_at few next.body

  -- all steps of the caller are steps of the call
  one_call : (i : ℕ) (t : Step) → slice_get (frame_steps p fr) i ≡ Some t → t.action ≡ a
  one_call i t there =
      one_action p st.number fr.control next.index i next.step t (step_here p fr st next.index next.step next.here) (step_here p fr st i t there)
      (call_may next.step.action (subst IsCallRow (sym next.same) next.row))
      ∙ next.same

  parameter_given : (m : Method) (v : ℕ) → method_at p callee.method ≡ Some m → is_spoken_variable m v ≡ true → variable_value callee.locals v ≡ operand_of fr.locals a (suc v)
  parameter_given m v at spoken =
      let same : m ≡ next.running = (let both : Some m ≡ Some next.running = sym at ∙ ap (method_at p) started.method ∙ next.running_at in (let one : m ≡ next.running = cc in one)) in
      let inside : v < length m.sig.params.items = ltb-true v (length m.sig.params.items) (and_parts (nat_lt v (length m.sig.params.items)) (is_spoken_of m.sig (v + 1)) spoken).0 in
      let long : length m.sig.params.items ≡ length (params_in (method_at p named)) = ap (λ (x : Method). length x.sig.params.items) same ∙ sym count in
      let position : 1 + v ≡ suc v = omega arith in
      started.variables v (operand_of fr.locals a (1 + v)) (argument_at (operand_of fr.locals a) (length (params_in (method_at p named))) v (omega (arith, inside, long)))
      ∙ ap (operand_of fr.locals a) position

  pub begun_has : HasArguments p fr callee
  begun_has = record {
    parameters = λ i t m v there at spoken. parameter_given m v at spoken ∙ ap (λ (b : Action). operand_of fr.locals b (suc v)) (sym (one_call i t there));
    receiver = λ i t w there is. started.this ∙ receiver_is_this h fr.locals a w (ap (λ (b : Action). operand_of fr.locals b 0) (sym (one_call i t there)) ∙ is);
    target = λ i t there has. started.this ∙ this_is_receiver h fr.locals a (ap has_receiver (sym (one_call i t there)) ∙ has) ∙ ap (λ (b : Action). operand_of fr.locals b 0) (sym (one_call i t there));
  }
