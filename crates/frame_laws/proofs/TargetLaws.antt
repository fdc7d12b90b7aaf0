-- Each step of the machine leaves frames that find `this`.
use Rattle.std.proofs.Common.{◌≡◌, ℕ, true, false, Option, Some, None, List, [], ◌∷◌, length, slice_get, sym, ap, ◌∙◌, subst, inl, inr}
use Rattle.program_model.specs.declared.kinds.MethodId.{MethodId}
use Rattle.program_model.specs.declared.kinds.MethodKind.TheVariants as methods
use Rattle.program_model.specs.declared.program.Method.{Method}
use Rattle.program_model.specs.declared.program.Program.{Program}
use Rattle.program_model.specs.Lookups.{method_at}
use Rattle.rlc_base.specs.declared.place.Pos.{Pos}
use Rattle.java_control.specs.Control.{Step}
use Rattle.control_actions.specs.declared.action.Action.{Action}
use Rattle.control_actions.specs.declared.action.Completion.{Completion}
use Rattle.ownership_rules.specs.SmallActions.{IsSmallAction}
use Rattle.fact_laws.specs.Accept.{Accept}
use Rattle.stub_conduct.specs.declared.choice.Choices.{Choices}
use Rattle.ledger_state.specs.Heaps.{next_number}
use Rattle.ledger_state.specs.Locals.{temp_value}
use Rattle.ledger_state.specs.Values.{is_null}
use Rattle.ledger_state.specs.declared.value.Value.TheVariants as values
use Rattle.ledger_moves.specs.Operations.{made_value, next_choice}
use Rattle.ledger_steps.specs.LedgerCallsCalls.{argument_values, begun, body_of, has_null_target}
use Rattle.ledger_steps.specs.Conducts.{arguments_shared, conduct_value, positions}
use Rattle.ledger_moves.specs.Configuration.{Config, Frame}
use Rattle.ledger_moves.specs.Choosing.{frame_steps}
use Rattle.ledger_steps.specs.CallSteps.{self_begun}
use Rattle.ledger_steps.specs.Ends.{answered, exception_class, result_value, thrown_in}
use Rattle.ledger_steps.specs.InnerSteps.{thrown_value}
use Rattle.ledger_moves.specs.Moves.{Move, Inner, Start, Library, End, Stray, Rest, has_body, standing}
use Rattle.ledger_moves.specs.Moves.{Return, Back, StrayBack, NoWay, return_move}
use Rattle.agreement.specs.LedgerRunsOutcomes.{went, ended, stray}
use Rattle.agreement.specs.Starts.{start_config}
use Rattle.agreement.specs.LedgerRunsSteps.{began, end, library_went, main_ended, moved, moved_by, returned, returned_by, step, top_move, within}
use Rattle.fact_laws.specs.StepTargets.{FindsIt, HasThis, this_operand}
use Rattle.frame_laws.specs.Frames.{HaveTargets, KeepsTargets, holds_this}
use Rattle.frame_laws.proofs.TargetBegun.{begun_keeps, finds, found, frame_keeps, self_there, small, target_there}
use Rattle.frame_laws.proofs.Moved.{IsBack, IsCallNext, IsNext, back_is, next_is}

same_went : (c d : Config) → went c ≡ went d → c ≡ d
same_went c d is = cc

module _ (p : Program) (ac : Accept p) where
  -- what holds of the frames of the one holds of those of the other
  carried : (c d : Config) → went c ≡ went d → HaveTargets p c.frames → HaveTargets p d.frames
  carried c d is have = subst (λ (x : Config). HaveTargets p x.frames) (same_went c d is) have

  module _ (c d : Config) (fr : Frame) (frs : List Frame) (keeps : KeepsTargets p fr) (rest : HaveTargets p frs) (have : HaveTargets p c.frames) where
    callee_keeps : (named runs : MethodId) (a : Action) → IsCallNext p c.heap fr.locals (frame_steps p fr) named runs a
        → KeepsTargets p (begun p runs (self_begun fr.locals a c.heap) (argument_values fr.locals a (method_at p named)))
    callee_keeps named runs a next =
        begun_keeps p ac runs (self_begun fr.locals a c.heap) (argument_values fr.locals a (method_at p named)) this next.body
      where
        it : FindsIt p keeps.body a (holds_this fr.locals)
        it = subst (λ (x : Action). FindsIt p keeps.body x (holds_this fr.locals)) next.action (finds p ac fr keeps next.index next.step next.here)

        few : IsSmallAction p a
        few = subst (IsSmallAction p) next.action (small p ac fr keeps next.index next.step next.here)

        this : HasThis (method_at p runs) → is_null (self_begun fr.locals a c.heap) ≡ false
        this has = self_there p keeps.body fr.locals keeps.this c.heap a named runs it few next.called next.target next.selected has

    returned_have : (caller : Frame) (below : List Frame) (pos : Pos) (q : Completion) (r : Return) → KeepsTargets p caller → HaveTargets p below → IsBack (frame_steps p caller) r
        → returned_by p c fr caller below pos q r ≡ went d → HaveTargets p d.frames
    returned_have caller below pos q (Back e named t) waits more back same =
        carried (returned p c fr caller below pos q e named t) d same
        (frame_keeps p ac caller waits back.0 t back.1 c.heap (answered fr.locals.this t.action (result_value fr.locals (method_at p fr.method) q) e), more)
    returned_have caller below pos q (StrayBack e at) waits more back same = absurd (let never : stray e at ≡ went d = same in cc)
    returned_have caller below pos q NoWay waits more back same = carried c d same have

    end_have : (frs : List Frame) (pos : Pos) (q : Completion) → HaveTargets p frs → end p c fr frs pos q ≡ went d → HaveTargets p d.frames
    end_have [] pos q more same = carried (main_ended p c fr pos q) d same tt
    end_have (caller ∷ below) pos q more same =
        returned_have caller below pos q (return_move p (frame_steps p caller) (exception_class p c.heap (thrown_in fr.locals q))) more.0 more.1
        (back_is p (frame_steps p caller) (exception_class p c.heap (thrown_in fr.locals q))) same

    moved_have : (mv : Move) → IsNext p c.heap fr.locals (frame_steps p fr) mv → moved p c fr frs mv ≡ went d → HaveTargets p d.frames
    moved_have (Inner e s) next same =
        carried (within p c fr frs e s) d same
        (frame_keeps p ac fr keeps next.0 s next.1 c.heap (thrown_value c.heap e (made_value p c.heap c.arrays c.statics (next_choice c.choices c.used) fr.locals s.action)), rest)
    moved_have (Start named runs a pos) next same = carried (began p c fr frs named runs a pos) d same (callee_keeps named runs a next, (keeps, rest))
    moved_have (Library named m x s) next same =
        carried (library_went p c fr frs named m x s) d same (
          frame_keeps p ac fr keeps next.0 s next.1 c.heap
              (conduct_value (length (arguments_shared c.arrays fr.locals s.action (method_at p named))) (method_at p m) (positions fr.locals s.action (next_number c.heap) x) (next_number c.heap) x),
          rest,
        )
    moved_have (End pos q) next same = end_have frs pos q rest same
    moved_have (Stray e pos) next same = absurd (let never : stray e pos ≡ went d = same in cc)
    moved_have Rest next same = carried c d same have

  by_frames : (c d : Config) (frs : List Frame) → HaveTargets p c.frames → HaveTargets p frs → moved_by p c frs (top_move p c frs) ≡ went d → HaveTargets p d.frames
  by_frames c d [] have all same = absurd (let never : ended c.ended ≡ went d = same in cc)
  by_frames c d (fr ∷ frs) have all same =
      moved_have c d fr frs all.0 all.1 have (top_move p c (fr ∷ frs))
      (next_is p c.heap c.arrays (next_choice c.choices c.used) fr.method fr.locals (frame_steps p fr) (standing (slice_get fr.control 0))) same

-- ---- the laws

pub targets_step : (p : Program) → Accept p → (c d : Config) → HaveTargets p c.frames → step p c ≡ went d → HaveTargets p d.frames
unfolding step
targets_step p ac c d have same = by_frames p ac c d c.frames have have same

no_this : (x : Option Method) (m : Method) → x ≡ Some m → m.kind ≡ methods.Static → HasThis x → ⊥
no_this None m at static has = has
no_this (Some x) m at static has =
    let kind : x.kind ≡ methods.Static = ap (λ (y : Method). y.kind) (let one : x ≡ m = (let both : Some x ≡ Some m = at in cc) in one) ∙ static in
    go kind has
  where
    go : x.kind ≡ methods.Static → HasThis (Some x) → ⊥
    go kind (inl instance) = let never : methods.Static ≡ methods.Instance = sym kind ∙ instance in cc
    go kind (inr constructor) = let never : methods.Static ≡ methods.Ctor = sym kind ∙ constructor in cc

pub targets_at_start : (p : Program) → Accept p → (main : MethodId) (m : Method) (choices : Choices) → method_at p main ≡ Some m → m.kind ≡ methods.Static → has_body m.body ≡ true
    → HaveTargets p (start_config p main choices).frames
unfolding start_config
targets_at_start p ac main m choices at static has =
    (begun_keeps p ac main values.Nothing (values.Array 0 ∷ []) (λ instance. absurd (no_this (method_at p main) m at static instance)) (ap (λ (x : Option Method). has_body (body_of x)) at ∙ has), tt)

pub target_is_this : (p : Program) → Accept p → (fr : Frame) → KeepsTargets p fr → (i : ℕ) (t : Step) (d : ℕ) → slice_get (frame_steps p fr) i ≡ Some t → this_operand t.action ≡ Some d
    → (temp_value fr.locals d ≡ fr.locals.this) × (is_null fr.locals.this ≡ false)
target_is_this p ac fr keeps i t d here is =
    let it = found p keeps.body fr.locals t.action d (finds p ac fr keeps i t here) (small p ac fr keeps i t here) is in
    (it.0, keeps.this it.1)

pub target_is_there : (p : Program) → Accept p → (fr : Frame) → KeepsTargets p fr → (i : ℕ) (t : Step) (d : ℕ) → slice_get (frame_steps p fr) i ≡ Some t → this_operand t.action ≡ Some d
    → has_null_target fr.locals t.action ≡ false
target_is_there p ac fr keeps i t d here is =
    target_there p keeps.body fr.locals keeps.this t.action d (finds p ac fr keeps i t here) (small p ac fr keeps i t here) is
