-- Each step of the machine leaves frames whose constructors have stored what the owning fields of their objects hold.
use Rattle.std.proofs.Common.{◌≡◌, inl, inr, suc, ◌+◌, List, [], ◌∷◌, length, ap, subst}
use Rattle.std.specs.List.{All, find}
use Rattle.std.proofs.lemmas.List.Elements.{All-tail}
use Rattle.std.specs.Option.{unwrap_or}
use Rattle.rlc_base.specs.declared.place.Pos.{Pos}
use Rattle.program_model.specs.declared.kinds.MethodId.{MethodId}
use Rattle.program_model.specs.declared.program.Program.{Program}
use Rattle.program_model.specs.Lookups.{field_at, method_at}
use Rattle.control_actions.specs.declared.action.Completion.{Completion}
use Rattle.covering_laws.specs.Accept.{Accept}
use Rattle.stub_conduct.specs.declared.choice.Choices.{Choices}
use Rattle.ledger_state.specs.Contents.{HeapContents}
use Rattle.ledger_state.specs.Fields.{default_in}
use Rattle.ledger_state.specs.Heaps.{is_field_of, next_number, value_stored}
use Rattle.ledger_state.specs.declared.object.StoredField.{StoredField}
use Rattle.covering_laws.specs.Operations.{made_value, next_choice}
use Rattle.ledger_steps.specs.Conducts.{arguments_shared, conduct_value, positions}
use Rattle.covering_laws.specs.Configuration.{Config, Frame, held_by}
use Rattle.covering_laws.specs.Choosing.{frame_steps}
use Rattle.covering_laws.specs.LedgerFramesFrames.{frame_after}
use Rattle.ledger_steps.specs.Ends.{answered, exception_class, result_value, thrown_in}
use Rattle.ledger_steps.specs.InnerSteps.{thrown_value}
use Rattle.covering_laws.specs.Moves.{Move, Inner, Start, Library, End, Stray, Rest, Return, Back, StrayBack, NoWay, return_move}
use Rattle.covering_laws.specs.LedgerRunsOutcomes.{went, ended, stray}
use Rattle.covering_laws.specs.Starts.{start_config}
use Rattle.covering_laws.specs.LedgerRunsSteps.{began, end, library_went, main_ended, moved, moved_by, returned, returned_by, step, top_move, within}
use Rattle.covering_laws.specs.Agreement.{AllStand, HasMadeClasses, Stands}
use Rattle.covering_laws.specs.PlainForms.{HasPlainForms}
use Rattle.covering_laws.specs.Frames.{HaveTargets}
use Rattle.covering_laws.proofs.FrameMoved.{IsBack, back_is}
use Rattle.covering_laws.specs.Nexts.{IsNext}
use Rattle.covering_laws.proofs.Cases.{next_is}
use Rattle.covering_laws.specs.FieldContents.{AreNew, AreUnfinished}
use Rattle.covering_laws.specs.Ranges.{AreInRange, LocalsInRange}
use Rattle.covering_laws.proofs.Growth.{began_grows, library_grows, returned_grows}
use Rattle.covering_laws.specs.Sight.{ActsInSight, AllActInSight}
use Rattle.content_laws.specs.Filled.{AreFilled, StoresReadily, TopStoresReadily}
use Rattle.content_laws.proofs.FilledStores.{in_none, inner_owning}
use Rattle.content_laws.proofs.FilledFrames.{KeepsOwning, begun_filled, keeps_stores, same_filled, went_filled}

same_went : (c d : Config) → went c ≡ went d → c ≡ d
same_went c d is = cc

-- where no field is stored, each holds what it held
fields_keep : (p : Program) (h k : HeapContents) → k.fields ≡ h.fields → KeepsOwning p h k
fields_keep p h k same u g x declared owning = ap (λ (xs : List StoredField). unwrap_or (value_stored (find (is_field_of u g) xs)) (default_in (field_at p g))) same

module _ (p : Program) (ac : Accept p) (forms : HasPlainForms p) where
  carried : (c d : Config) → went c ≡ went d → AreFilled p c.heap c.frames → AreFilled p d.heap d.frames
  carried c d is all = subst (λ (x : Config). AreFilled p x.heap x.frames) (same_went c d is) all

  module _ (c d : Config) (fr : Frame) (frs : List Frame) (st : Stands p fr) (ranges : AreInRange c) (in' : All (λ (x : Frame). LocalsInRange c.heap x.locals) (fr ∷ frs)) (new : AreNew p (fr ∷ frs))
      (all : AreFilled p c.heap (fr ∷ frs)) (same_frames : AreFilled p c.heap c.frames) (sight : ActsInSight p c.heap fr) (open' : AreUnfinished p c.heap (fr ∷ frs)) (ready : StoresReadily p c.heap fr frs) where
    waits_in : All (λ (x : Frame). LocalsInRange c.heap x.locals) frs
    waits_in = All-tail (λ (x : Frame). LocalsInRange c.heap x.locals) fr frs in'

    returned_all : (caller : Frame) (below : List Frame) (pos : Pos) (q : Completion) (r : Return) → Stands p caller → All (λ (x : Frame). LocalsInRange c.heap x.locals) (caller ∷ below) → AreUnfinished p c.heap (caller ∷ below) → AreNew p (caller ∷ below)
        → AreFilled p c.heap (caller ∷ below)
        → IsBack (frame_steps p caller) r → returned_by p c fr caller below pos q r ≡ went d → AreFilled p d.heap d.frames
    returned_all caller below pos q (Back e named t) waits in'' open'' new' all' back same =
        let v = result_value fr.locals (method_at p fr.method) q in
        let given = answered fr.locals.this t.action v e in
        let k : HeapContents = (returned p c fr caller below pos q e named t).heap in
        let keeps : KeepsOwning p c.heap k =
        fields_keep p c.heap k (returned_grows p (length below + 1) fr.locals.this caller.locals t.action (method_at p fr.method) (method_at p named) v e c.heap).fields in
        carried (returned p c fr caller below pos q e named t) d same
        (went_filled p forms c.heap k caller waits back.0 t back.1 given below (keeps_stores p c.heap k caller below t.action keeps) (All-tail (λ (x : Frame). LocalsInRange c.heap x.locals) caller below in'') open''.1 new' all')
    returned_all caller below pos q (StrayBack e at) waits in'' open'' new' all' back same = absurd (let never : stray e at ≡ went d = same in cc)
    returned_all caller below pos q NoWay waits in'' open'' new' all' back same = carried c d same same_frames

    end_all : (rest : List Frame) (pos : Pos) (q : Completion) → AllStand p rest → All (λ (x : Frame). LocalsInRange c.heap x.locals) rest → AreUnfinished p c.heap rest → AreNew p rest → AreFilled p c.heap rest → end p c fr rest pos q ≡ went d → AreFilled p d.heap d.frames
    end_all [] pos q standing in'' open'' new' all' same = carried (main_ended p c fr pos q) d same tt
    end_all (caller ∷ below) pos q standing in'' open'' new' all' same =
        returned_all caller below pos q (return_move p (frame_steps p caller) (exception_class p c.heap (thrown_in fr.locals q))) standing.0 in'' open'' new' all'
        (back_is p (frame_steps p caller) (exception_class p c.heap (thrown_in fr.locals q))) same

    moved_all : AllStand p frs → (mv : Move) → IsNext p c.heap c.arrays fr.method fr.locals (frame_steps p fr) mv → moved p c fr frs mv ≡ went d → AreFilled p d.heap d.frames
    moved_all standing (Inner e s) next same =
        let v = thrown_value c.heap e (made_value p c.heap c.arrays c.statics (next_choice c.choices c.used) fr.locals s.action) in
        carried (within p c fr frs e s) d same
        (went_filled p forms c.heap (within p c fr frs e s).heap fr st next.0 s next.1 v frs
        (λ u g x declared owning. elim (inner_owning p c.heap fr.method fr.locals e s.action s.pos (held_by (frame_after p c.heap fr s v ∷ frs)) (λ f d w this is own held. (sight.updates next.0 s f d w this next.1 is own held).0) u g x declared owning) [
          | inl same ↦ inl same
          | inr more ↦ inr (elim more [ inl store ↦ inl (store, ready next.0 s g store.0 u next.1 store.1 store.2) | inr none ↦ inr none ])
        ]) waits_in open'.1 new all)
    moved_all standing (Start named runs a pos) next same =
        let k : HeapContents = (began p c fr frs named runs a pos).heap in
        let keeps : KeepsOwning p c.heap k = fields_keep p c.heap k (began_grows p fr.locals a (method_at p named) (suc (suc (length frs))) c.heap).fields in
        carried (began p c fr frs named runs a pos) d same
        (begun_filled p ac forms c.heap k c.arrays fr frs st in' named runs a next ranges.fields keeps, same_filled p c.heap k keeps (fr ∷ frs) all)
    moved_all standing (Library named m x s) next same =
        let k : HeapContents = (library_went p c fr frs named m x s).heap in
        let v = conduct_value (length (arguments_shared c.arrays fr.locals s.action (method_at p named))) (method_at p m) (positions fr.locals s.action (next_number c.heap) x) (next_number c.heap) x in
        carried (library_went p c fr frs named m x s) d same
        (went_filled p forms c.heap k fr st next.index s next.here v frs
        (keeps_stores p c.heap k fr frs s.action (fields_keep p c.heap k (library_grows p fr.locals s.action (method_at p named) (method_at p m) x (length frs + 1) c.heap).fields)) waits_in open'.1 new all)
    moved_all standing (End pos q) next same = end_all frs pos q standing waits_in open'.1 new.1 all.1 same
    moved_all standing (Stray e pos) next same = absurd (let never : stray e pos ≡ went d = same in cc)
    moved_all standing Rest next same = carried c d same same_frames

  by_frames : (c d : Config) (frs : List Frame) → HasMadeClasses p c.heap → AreInRange c → AreFilled p c.heap c.frames → AllStand p frs → HaveTargets p frs → All (λ (x : Frame). LocalsInRange c.heap x.locals) frs → AreNew p frs
      → AreFilled p c.heap frs → AllActInSight p c.heap frs → AreUnfinished p c.heap frs → TopStoresReadily p c.heap frs → moved_by p c frs (top_move p c frs) ≡ went d → AreFilled p d.heap d.frames
  by_frames c d [] made ranges have standing targets in' new all sight open' ready same = absurd (let never : ended c.ended ≡ went d = same in cc)
  by_frames c d (fr ∷ frs) made ranges have standing targets in' new all sight open' ready same =
      moved_all c d fr frs standing.0 ranges in' new all have sight.0 open' ready standing.1 (top_move p c (fr ∷ frs))
      (next_is p ac forms c.heap c.arrays (next_choice c.choices c.used) fr standing.0 targets.0 made) same

-- ---- the laws

pub filled_step : (p : Program) → Accept p → HasPlainForms p → (c d : Config) → HasMadeClasses p c.heap → AllStand p c.frames → HaveTargets p c.frames → AreInRange c → AreNew p c.frames → AreFilled p c.heap c.frames
    → AllActInSight p c.heap c.frames → AreUnfinished p c.heap c.frames → TopStoresReadily p c.heap c.frames → step p c ≡ went d → AreFilled p d.heap d.frames
unfolding step
filled_step p ac forms c d made standing targets ranges new all sight open' ready same =
    by_frames p ac forms c d c.frames made ranges all standing targets ranges.frames new all sight open' ready same

pub filled_at_start : (p : Program) (main : MethodId) (choices : Choices) → AreFilled p (start_config p main choices).heap (start_config p main choices).frames
unfolding start_config
filled_at_start p main choices = (λ b w c f x id new this declared owning class value. absurd (in_none (field_at p f) c value), tt)
