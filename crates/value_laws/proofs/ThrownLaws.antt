-- Each step of the machine leaves exceptions in their temps.
pub use Rattle.frame_laws.proofs.TargetLaws.{targets_at_start, targets_step}
pub use Rattle.value_laws.proofs.ClassLaws.{classes_at_start, classes_step, raised_values_are_exceptions}
use Rattle.std.proofs.Common.{◌≡◌, ℕ, Option, Some, None, List, [], ◌∷◌, length, slice_get, refl, sym, ap, ◌∙◌, subst}
use Rattle.rlc_base.specs.declared.place.Pos.{Pos}
use Rattle.program_model.specs.declared.kinds.ClassId.{ClassId}
use Rattle.program_model.specs.declared.kinds.MethodId.{MethodId}
use Rattle.program_model.specs.declared.program.Program.{Program}
use Rattle.program_model.specs.Lookups.{method_at}
use Rattle.java_control.specs.Control.{Step}
use Rattle.control_actions.specs.declared.action.Action.TheVariants as actions
use Rattle.control_actions.specs.declared.action.Completion.{Completion}
use Rattle.control_actions.specs.declared.action.Completion.TheVariants as completions
use Rattle.dispatch_laws.specs.Accept.{Accept}
use Rattle.stub_conduct.specs.declared.choice.Choices.{Choices}
use Rattle.ledger_state.specs.Classes.{class_in, runtime_class}
use Rattle.ledger_state.specs.Values.{number_of}
use Rattle.ledger_steps.specs.LedgerCallsCalls.{argument_values}
use Rattle.ledger_steps.specs.CallSteps.{self_begun}
use Rattle.ledger_state.specs.Contents.{HeapContents}
use Rattle.ledger_state.specs.Heaps.{next_number}
use Rattle.ledger_state.specs.Locals.{temp_value}
use Rattle.ledger_state.specs.declared.value.Value.{Value}
use Rattle.ledger_state.specs.declared.value.Value.TheVariants as values
use Rattle.ledger_moves.specs.Operations.{made_value, next_choice}
use Rattle.ledger_steps.specs.Conducts.{arguments_shared, conduct_value, positions}
use Rattle.ledger_moves.specs.Configuration.{Config, Frame}
use Rattle.ledger_moves.specs.Choosing.{frame_steps}
use Rattle.ledger_moves.specs.Moves.{Move, Inner, Start, Library, End, Stray, Rest, Return, Back, StrayBack, NoWay, return_move}
use Rattle.frame_laws.specs.LedgerRunsOutcomes.{went, ended, stray}
use Rattle.frame_laws.specs.Starts.{start_config}
use Rattle.frame_laws.specs.LedgerRunsSteps.{began, end, library_went, main_ended, moved, moved_by, returned, returned_by, step, top_move, within}
use Rattle.ledger_steps.specs.Ends.{answered, exception_class, result_value, thrown_in}
use Rattle.ledger_steps.specs.InnerSteps.{thrown_value}
use Rattle.dispatch_laws.proofs.RootLaws.{object_of_number}
use Rattle.frame_laws.specs.Agreement.{Agree, AllStand, HasMadeClasses, IsCalledFrom, IsStacked, Stands, WaitsFor}
use Rattle.dispatch_laws.specs.PlainForms.{HasPlainForms}
use Rattle.frame_laws.specs.Ranges.{LocalsInRange}
use Rattle.frame_laws.specs.Frames.{HaveTargets}
use Rattle.frame_laws.specs.Nexts.{IsBack, IsNext}
use Rattle.frame_laws.proofs.Cases.{next_is}
use Rattle.frame_laws.proofs.Returns.{back_is}
use Rattle.dispatch_laws.specs.ClassOperands.{IsNotAboveString}
use Rattle.value_laws.specs.ClassValues.{HaveClasses}
use Rattle.value_laws.specs.Exceptions.{RaisesException, TopRaisesException}
use Rattle.value_laws.specs.Values.{FitsClass}
use Rattle.value_laws.proofs.ClassLaws.{raised_values_are_exceptions}
use Rattle.value_laws.specs.Thrown.{HasClass, HaveThrown, HoldsThrown}
use Rattle.value_laws.proofs.Frames.{begun_holds, call_raises, ends_held, holds_still, inner_raises, inner_thrown, library_raises, library_thrown, returned_thrown}

same_went : (c d : Config) → went c ≡ went d → c ≡ d
same_went c d is = cc

module _ (p : Program) (ac : Accept p) (forms : HasPlainForms p) (own : IsNotAboveString p p.core.throwable) where
  -- what holds of the frames of the one holds of those of the other
  carried : (c d : Config) → went c ≡ went d → HaveThrown p c.frames → HaveThrown p d.frames
  carried c d is have = subst (λ (x : Config). HaveThrown p x.frames) (same_went c d is) have

  module _ (c d : Config) (fr : Frame) (frs : List Frame) (st : Stands p fr) (raises : RaisesException p c.heap fr) (holds : HoldsThrown p fr) (rest : HaveThrown p frs) (have : HaveThrown p c.frames) where
    abbrev e : Completion → Option ClassId
    e q = exception_class p c.heap (thrown_in fr.locals q)

    returned_have : (caller : Frame) (below : List Frame) (pos : Pos) (q : Completion) (named : MethodId) (r : Return) → Stands p caller → HoldsThrown p caller → HaveThrown p below
        → IsBack p (frame_steps p caller) (e q) named r → returned_by p c fr caller below pos q r ≡ went d → HaveThrown p d.frames
    returned_have caller below pos q named (Back x m t) waits held more back same =
        carried (returned p c fr caller below pos q x m t) d same (
          holds_still p ac caller waits back.2.index t back.2.here forms c.heap (answered fr.locals.this t.action (result_value fr.locals (method_at p fr.method) q) x)
              (returned_thrown p c.heap fr.locals (method_at p fr.method) fr.locals.this q t x (sym back.0) (λ none. back.2.normal (sym back.0 ∙ none)))
              (call_raises p caller.locals t back.2.row) held,
          more,
        )
    returned_have caller below pos q named (StrayBack x at) waits held more back same = absurd (let never : stray x at ≡ went d = same in cc)
    returned_have caller below pos q named NoWay waits held more back same = carried c d same have

    end_have : (frs : List Frame) (pos : Pos) (q : Completion) → AllStand p frs → IsCalledFrom p c.heap fr frs → HaveThrown p frs → end p c fr frs pos q ≡ went d → HaveThrown p d.frames
    end_have [] pos q standing stacked more same = carried (main_ended p c fr pos q) d same tt
    end_have (caller ∷ below) pos q standing stacked more same =
        let w : WaitsFor p c.heap caller fr = stacked.0 in
        returned_have caller below pos q w.named (return_move p (frame_steps p caller) (e q)) standing.0 more.0 more.1
        (back_is p caller standing.0 w.named w.index w.step w.here w.calls (e q)) same

    moved_have : AllStand p frs → IsCalledFrom p c.heap fr frs → (mv : Move) → IsNext p c.heap c.arrays fr.method fr.locals (frame_steps p fr) mv → moved p c fr frs mv ≡ went d → HaveThrown p d.frames
    moved_have standing stacked (Inner x s) next same =
        let made = made_value p c.heap c.arrays c.statics (next_choice c.choices c.used) fr.locals s.action in
        let raised : (d : ℕ) (y : Option ClassId) → s.action ≡ actions.Raise d y → (made ≡ temp_value fr.locals d) × FitsClass p p.core.throwable c.heap (temp_value fr.locals d) =
        λ d y is. (ap (made_value p c.heap c.arrays c.statics (next_choice c.choices c.used) fr.locals) is, raises next.0 s d y next.1 is) in
        carried (within p c fr frs x s) d same (
          holds_still p ac fr st next.0 s next.1 forms c.heap (thrown_value c.heap x made)
              (inner_thrown p c.heap c.arrays fr.method fr.locals s made raised x next.2) (inner_raises p c.heap c.arrays fr.method fr.locals s made raised x next.2) holds,
          rest,
        )
    moved_have standing stacked (Start named runs a pos) next same =
        carried (began p c fr frs named runs a pos) d same (begun_holds p runs (self_begun fr.locals a c.heap) (argument_values fr.locals a (method_at p named)), (holds, rest))
    moved_have standing stacked (Library named m x s) next same =
        carried (library_went p c fr frs named m x s) d same (
          holds_still p ac fr st next.index s next.here forms c.heap
              (conduct_value (length (arguments_shared c.arrays fr.locals s.action (method_at p named))) (method_at p m) (positions fr.locals s.action (next_number c.heap) x) (next_number c.heap) x)
              (library_thrown s (length (arguments_shared c.arrays fr.locals s.action (method_at p named))) (method_at p m) (positions fr.locals s.action (next_number c.heap) x) (next_number c.heap) x next.normal) (library_raises p fr.locals s named next.row) holds,
          rest,
        )
    moved_have standing stacked (End pos q) next same = end_have frs pos q standing stacked rest same
    moved_have standing stacked (Stray x pos) next same = absurd (let never : stray x pos ≡ went d = same in cc)
    moved_have standing stacked Rest next same = carried c d same have

  by_frames : (c d : Config) (frs : List Frame) → HasMadeClasses p c.heap → TopRaisesException p c.heap frs → HaveThrown p c.frames → AllStand p frs → IsStacked p c.heap frs → HaveTargets p frs → HaveThrown p frs → moved_by p c frs (top_move p c frs) ≡ went d
      → HaveThrown p d.frames
  by_frames c d [] made raises have standing stacked targets all same = absurd (let never : ended c.ended ≡ went d = same in cc)
  by_frames c d (fr ∷ frs) made raises have standing stacked targets all same =
      moved_have c d fr frs standing.0 raises all.0 all.1 have standing.1 stacked (top_move p c (fr ∷ frs))
      (next_is p ac forms c.heap c.arrays (next_choice c.choices c.used) fr standing.0 targets.0 made) same

-- ---- the laws

pub thrown_step : (p : Program) → Accept p → HasPlainForms p → IsNotAboveString p p.core.throwable → (c d : Config) → Agree p c → HaveTargets p c.frames → HaveClasses p c → HaveThrown p c.frames → step p c ≡ went d → HaveThrown p d.frames
unfolding step
thrown_step p ac forms own c d agrees targets keep have same = by_frames p ac forms own c d c.frames agrees.classes (raised_values_are_exceptions p ac own c.heap c.frames (keep p.core.throwable own).frames) have agrees.standing agrees.stacked targets have same

pub thrown_at_start : (p : Program) (main : MethodId) (choices : Choices) → HaveThrown p (start_config p main choices).frames
unfolding start_config
thrown_at_start p main choices = (begun_holds p main values.Nothing (values.Array 0 ∷ []), tt)

pub ends_by_exception : (p : Program) → Accept p → (h : HeapContents) (fr : Frame) → Stands p fr → LocalsInRange h fr.locals → HoldsThrown p fr → (i : ℕ) (s : Step) (d : ℕ) (t : ClassId) (pos : Pos)
    → slice_get (frame_steps p fr) i ≡ Some s → s.action ≡ actions.End (completions.Throw d t pos) → exception_class p h (thrown_in fr.locals (completions.Throw d t pos)) ≡ None → ⊥
ends_by_exception p ac h fr st ranges holds i s d t pos here is no_class = by (temp_value fr.locals d) refl (ends_held p ac fr st i s here holds d t pos is)
  where
    by : (v : Value) → temp_value fr.locals d ≡ v → HasClass v → ⊥
    by values.Nothing same has = has
    by values.Null same has = has
    by values.Text same has = let never : Some p.core.string ≡ None = sym (ap (runtime_class p h) same) ∙ no_class in cc
    by (values.Number z) same has = has
    by (values.Object k) same has =
        let number = ranges.temps d k (ap number_of same) in
        let x = object_of_number h k number.0 number.1 in
        let never : Some x.0.class ≡ None = sym (ap class_in x.1) ∙ sym (ap (runtime_class p h) same) ∙ no_class in
        cc
    by (values.Array a) same has = let never : Some p.core.object ≡ None = sym (ap (runtime_class p h) same) ∙ no_class in cc
