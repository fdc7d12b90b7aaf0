-- Each step of the machine leaves frames that hold their arguments.
use Rattle.std.proofs.Common.{◌≡◌, List, [], ◌∷◌, length, subst}
use Rattle.rlc_base.specs.declared.place.Pos.{Pos}
use Rattle.program_model.specs.declared.kinds.MethodId.{MethodId}
use Rattle.program_model.specs.declared.program.Program.{Program}
use Rattle.program_model.specs.Lookups.{method_at}
use Rattle.control_actions.specs.declared.action.Completion.{Completion}
use Rattle.fact_laws.specs.Accept.{Accept}
use Rattle.stub_conduct.specs.declared.choice.Choices.{Choices}
use Rattle.ledger_state.specs.Heaps.{next_number}
use Rattle.ledger_moves.specs.Operations.{made_value, next_choice}
use Rattle.ledger_steps.specs.Conducts.{arguments_shared, conduct_value, positions}
use Rattle.ledger_moves.specs.Configuration.{Config, Frame}
use Rattle.ledger_moves.specs.Choosing.{frame_steps}
use Rattle.ledger_steps.specs.Ends.{answered, exception_class, result_value, thrown_in}
use Rattle.ledger_steps.specs.InnerSteps.{thrown_value}
use Rattle.ledger_moves.specs.Moves.{Move, Inner, Start, Library, End, Stray, Rest, Return, Back, StrayBack, NoWay, return_move}
use Rattle.agreement.specs.LedgerRunsOutcomes.{went, ended, stray}
use Rattle.agreement.specs.Starts.{start_config}
use Rattle.agreement.specs.LedgerRunsSteps.{began, end, library_went, main_ended, moved, moved_by, returned, returned_by, step, top_move, within}
use Rattle.agreement.specs.Agreement.{AllStand, HasMadeClasses, Stands}
use Rattle.agreement.specs.PlainForms.{HasPlainForms}
use Rattle.frame_laws.specs.Frames.{HaveTargets}
use Rattle.frame_laws.proofs.Moved.{IsBack, back_is}
use Rattle.frame_laws.specs.Nexts.{IsNext}
use Rattle.frame_laws.proofs.Cases.{next_is}
use Rattle.frame_laws.specs.Arguments.{AreGiven, HaveArguments}
use Rattle.frame_laws.proofs.ArgumentBegun.{begun_has}
use Rattle.frame_laws.proofs.Kept.{given_still}

same_went : (c d : Config) → went c ≡ went d → c ≡ d
same_went c d is = cc

module _ (p : Program) (ac : Accept p) (forms : HasPlainForms p) where
  -- what holds of the frames of the one holds of those of the other
  carried : (c d : Config) → went c ≡ went d → HaveArguments p c.frames → HaveArguments p d.frames
  carried c d is have = subst (λ (x : Config). HaveArguments p x.frames) (same_went c d is) have

  module _ (c d : Config) (fr : Frame) (frs : List Frame) (st : Stands p fr) (given : AreGiven p fr frs) (have : HaveArguments p c.frames) where
    returned_have : (caller : Frame) (below : List Frame) (pos : Pos) (q : Completion) (r : Return) → Stands p caller → AreGiven p caller below → IsBack (frame_steps p caller) r
        → returned_by p c fr caller below pos q r ≡ went d → HaveArguments p d.frames
    returned_have caller below pos q (Back e named t) waits more back same =
        carried (returned p c fr caller below pos q e named t) d same
        (given_still p ac c.heap caller waits back.0 t back.1 (answered fr.locals.this t.action (result_value fr.locals (method_at p fr.method) q) e) below more)
    returned_have caller below pos q (StrayBack e at) waits more back same = absurd (let never : stray e at ≡ went d = same in cc)
    returned_have caller below pos q NoWay waits more back same = carried c d same have

    end_have : (frs : List Frame) (pos : Pos) (q : Completion) → AllStand p frs → AreGiven p fr frs → end p c fr frs pos q ≡ went d → HaveArguments p d.frames
    end_have [] pos q standing more same = carried (main_ended p c fr pos q) d same tt
    end_have (caller ∷ below) pos q standing more same =
        returned_have caller below pos q (return_move p (frame_steps p caller) (exception_class p c.heap (thrown_in fr.locals q))) standing.0 more.1
        (back_is p (frame_steps p caller) (exception_class p c.heap (thrown_in fr.locals q))) same

    moved_have : AllStand p frs → (mv : Move) → IsNext p c.heap c.arrays fr.method fr.locals (frame_steps p fr) mv → moved p c fr frs mv ≡ went d → HaveArguments p d.frames
    moved_have standing (Inner e s) next same =
        carried (within p c fr frs e s) d same
        (given_still p ac c.heap fr st next.0 s next.1 (thrown_value c.heap e (made_value p c.heap c.arrays c.statics (next_choice c.choices c.used) fr.locals s.action)) frs given)
    moved_have standing (Start named runs a pos) next same = carried (began p c fr frs named runs a pos) d same (begun_has p ac c.heap c.arrays fr st named runs a next, given)
    moved_have standing (Library named m x s) next same =
        carried (library_went p c fr frs named m x s) d same
        (given_still p ac c.heap fr st next.index s next.here
        (conduct_value (length (arguments_shared c.arrays fr.locals s.action (method_at p named))) (method_at p m) (positions fr.locals s.action (next_number c.heap) x) (next_number c.heap) x) frs given)
    moved_have standing (End pos q) next same = end_have frs pos q standing given same
    moved_have standing (Stray e pos) next same = absurd (let never : stray e pos ≡ went d = same in cc)
    moved_have standing Rest next same = carried c d same have

  by_frames : (c d : Config) (frs : List Frame) → HasMadeClasses p c.heap → HaveArguments p c.frames → AllStand p frs → HaveTargets p frs → HaveArguments p frs → moved_by p c frs (top_move p c frs) ≡ went d
      → HaveArguments p d.frames
  by_frames c d [] made have standing targets all same = absurd (let never : ended c.ended ≡ went d = same in cc)
  by_frames c d (fr ∷ frs) made have standing targets all same =
      moved_have c d fr frs standing.0 all have standing.1 (top_move p c (fr ∷ frs))
      (next_is p ac forms c.heap c.arrays (next_choice c.choices c.used) fr standing.0 targets.0 made) same

-- ---- the laws

pub arguments_step : (p : Program) → Accept p → HasPlainForms p → (c d : Config) → HasMadeClasses p c.heap → AllStand p c.frames → HaveTargets p c.frames → HaveArguments p c.frames → step p c ≡ went d → HaveArguments p d.frames
unfolding step
arguments_step p ac forms c d made standing targets have same = by_frames p ac forms c d c.frames made have standing targets have same

pub arguments_at_start : (p : Program) (main : MethodId) (choices : Choices) → HaveArguments p (start_config p main choices).frames
unfolding start_config
arguments_at_start p main choices = tt
