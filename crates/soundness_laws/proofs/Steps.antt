-- Each step of the machine keeps the agreement, where it is not stray.
use Rattle.std.proofs.Common.{◌≡◌, inl, inr, ℕ, ◌+◌, ◌≤◌, Bool, false, Option, Some, None, List, [], ◌∷◌, ◌++◌, length, slice_get, refl, sym, ap, ◌∙◌, subst, arith}
use Rattle.std.specs.List.{All}
use Rattle.std.proofs.lemmas.List.Elements.{All-head, All-tail}
use Rattle.std.proofs.lemmas.List.FromFn.{length-map-range_with_len}
use Rattle.rlc_base.specs.declared.place.Pos.{Pos}
use Rattle.program_model.specs.declared.kinds.ClassId.{ClassId}
use Rattle.program_model.specs.declared.kinds.MethodId.{MethodId}
use Rattle.program_model.specs.declared.program.Method.{Method}
use Rattle.program_model.specs.declared.program.Program.{Program}
use Rattle.program_model.specs.Lookups.{method_at}
use Rattle.ledger_obligations.specs.WellFormed.{HasSmallInterests}
use Rattle.java_control.specs.Calls.{called_method}
use Rattle.java_control.specs.Control.{Step}
use Rattle.control_actions.specs.declared.action.Action.{Action}
use Rattle.control_actions.specs.declared.action.Action.TheVariants as actions
use Rattle.control_actions.specs.declared.action.Completion.{Completion}
use Rattle.control_actions.specs.declared.action.Edge.TheVariants as edges
use Rattle.ownership_rules.specs.Room.{variables_in}
use Rattle.content_laws.specs.Accept.{Accept}
use Rattle.content_laws.specs.Paths.{move_of, on}
use Rattle.stub_conduct.specs.declared.choice.Conduct.{Conduct}
use Rattle.stub_conduct.specs.declared.choice.Conduct.TheVariants as conducts
use Rattle.ledger_state.specs.Contents.{HeapContents}
use Rattle.ledger_obligations.specs.MustCallSets.{is_heavy_class}
use Rattle.ledger_state.specs.Heaps.{next_number, object_at}
use Rattle.ledger_state.specs.declared.entry.Owner.TheVariants as owners
use Rattle.ledger_state.specs.declared.object.Object.{Object}
use Rattle.ledger_state.specs.declared.locals.Locals.{Locals}
use Rattle.ledger_state.specs.declared.value.Value.{Value}
use Rattle.ledger_state.specs.declared.value.Value.TheVariants as values
use Rattle.content_laws.specs.Operations.{made_value, next_choice}
use Rattle.ledger_steps.specs.LedgerCallsCalls.{argument_values, begun, body_of, operand_of, params_in, running}
use Rattle.ledger_steps.specs.Conducts.{arguments_shared, conduct_value, positions}
use Rattle.content_laws.specs.Configuration.{Config, Frame, held_by}
use Rattle.content_laws.specs.Choosing.{frame_steps}
use Rattle.content_laws.specs.LedgerFramesFrames.{frame_after}
use Rattle.ledger_steps.specs.CallSteps.{self_begun}
use Rattle.ledger_steps.specs.Ends.{answered, exception_class, result_value, thrown_in}
use Rattle.ledger_steps.specs.InnerSteps.{inner, thrown_value}
use Rattle.content_laws.specs.Moves.{Move, Inner, Start, Library, End, Stray, Rest, Return, Back, StrayBack, NoWay, return_move}
use Rattle.content_laws.specs.LedgerRunsOutcomes.{Outcome, went, ended, stray}
use Rattle.content_laws.specs.LedgerRunsSteps.{began, end, library_went, main_ended, moved, moved_by, returned, returned_by, step, top_move, within}
use Rattle.content_laws.specs.Frames.{HaveTargets, KeepsTargets}
use Rattle.content_laws.specs.LibraryClasses.{GivesLibraryClasses, ThrowsMadeClasses}
use Rattle.content_laws.specs.Agreement.{Agree, Agrees, IsMadeByNew, RunsItself, Stands, WaitsFor, IsMadeAfter}
use Rattle.content_laws.specs.PlainForms.{HasPlainForms, IsPlainCall}
use Rattle.content_laws.specs.Fitting.{FitsMethod}
use Rattle.content_laws.proofs.CallWays.{one_action}
use Rattle.content_laws.specs.Outcomes.{IsCallRow}
use Rattle.content_laws.proofs.PlaceLaws.{variables_stay}
use Rattle.content_laws.proofs.Entries.{has_begun, same_count}
use Rattle.content_laws.proofs.Ready.{plain_call, plain_step, step_here, step_there}
use Rattle.content_laws.proofs.Unmet.{call_may, row_of}
use Rattle.soundness_laws.proofs.Answered.{IsAnswered}
use Rattle.soundness_laws.proofs.CallEnds.{returned_agrees}
use Rattle.soundness_laws.proofs.CallStarts.{IsStarted, began_agrees}
use Rattle.content_laws.specs.FieldContents.{FieldsHold, FieldsOwn, IsBeingMade}
use Rattle.content_laws.specs.Sight.{ActsInSight, AllActInSight}
use Rattle.content_laws.specs.Holders.{HoldersAreUnlinked}
use Rattle.content_laws.specs.Renewing.{is_renewed}
use Rattle.content_laws.specs.Covering.{IsCountedOn}
use Rattle.content_laws.specs.PlaceFacts.{AreCovered, IsCovered, IsHeavyObject, gives_none, renews_none}
use Rattle.content_laws.proofs.ContentHolders.{contents_have_holders}
use Rattle.soundness_laws.proofs.SparedOwned.{apart_at_end}
use Rattle.content_laws.specs.Ranges.{AreInRange, LocalsInRange}
use Rattle.content_laws.specs.Making.{AreBeingMade}
use Rattle.content_laws.specs.Nexts.{IsBack, IsBackStep, IsInnerStep, IsLibraryMove, IsNext, IsStartMove}
use Rattle.content_laws.proofs.Cases.{next_is, none_runs}
use Rattle.content_laws.proofs.Returns.{back_is}
use Rattle.soundness_laws.specs.Supports.{IsSupported, Supports}
use Rattle.soundness_laws.proofs.InnerSteps.{inner_agrees}
use Rattle.soundness_laws.proofs.KeptPromises.{ShowsOperands, TopShowsOperands}
use Rattle.soundness_laws.proofs.LibrarySteps.{IsLibraryStep, library_agrees}
use Rattle.soundness_laws.proofs.MainEnds.{main_agrees}
use Rattle.soundness_laws.proofs.Programs.{is_programs}
use Rattle.soundness_laws.proofs.StoreSteps.{store_agrees}

stands_on : (p : Program) (ac : Accept p) (h : HeapContents) (fr : Frame) (st : Stands p fr) (i : ℕ) (s : Step) (v : Value) → slice_get (frame_steps p fr) i ≡ Some s
    → Stands p (frame_after p h fr s v)
stands_on p ac h fr st i s v here = record {
  number = st.number;
  body = st.body;
  id = st.id;
  at = st.at;
  method = st.method;
  control = on i (move_of s) st.control (step_there p fr st i s here);
  variables = variables_stay p h fr.method fr.locals s.action s.edge v few ∙ st.variables;
}
  where
    few : length fr.locals.variables ≤ 160
    few = subst (λ (n : ℕ). n ≤ 160) (ap variables_in st.at ∙ sym st.variables) (ac.fits st.number).room.variables

made_number : (count n : ℕ) (m : Option Method) (at : ℕ → Value) (d : Conduct) (e : ClassId) → d ≡ conducts.Fresh e → conduct_value count m at n d ≡ values.Object n
made_number count n m at d e is = rw is refl

-- the value that a call of the library gives
abbrev pub call_value : Program → Config → Frame → MethodId → MethodId → Conduct → Step → Value
call_value p c fr named m x s =
    conduct_value (length (arguments_shared c.arrays fr.locals s.action (method_at p named))) (method_at p m) (positions fr.locals s.action (next_number c.heap) x) (next_number c.heap) x

module _ (p : Program) (ac : Accept p) (forms : HasPlainForms p) (names : HasSmallInterests p) (gives : GivesLibraryClasses p) (throws : ThrowsMadeClasses p) where
  -- ---- the end of a frame

  answer : (h : HeapContents) (fr caller : Frame) (q : Completion) (st : Stands p fr) (below : Stands p caller) (w : WaitsFor p h caller fr) (t : Step)
      → t.action ≡ w.step.action → (exception_class p h (thrown_in fr.locals q) ≡ None → t.edge ≡ edges.Go)
      → ((c : ClassId) → exception_class p h (thrown_in fr.locals q) ≡ Some c → (k : ClassId) × (t.edge ≡ edges.Throws k)) → IsAnswered p h fr caller q t w.named
  answer h fr caller q st below w t same normal thrown = by (method_at p fr.method) refl (method_at p w.named) refl
    where
      row : IsCallRow w.step.action
      row = row_of w.step.action w.named w.calls

      plain : IsPlainCall p w.named
      plain = plain_call p w.step.action w.named (plain_step p ac forms caller below w.index w.step w.here) row w.calls

      by : (x : Option Method) → method_at p fr.method ≡ x → (n : Option Method) → method_at p w.named ≡ n → IsAnswered p h fr caller q t w.named
      by None at n named_at = absurd (let never : None ≡ Some st.number = sym (ap body_of at) ∙ st.id in cc)
      by (Some x) at None named_at = absurd (let never : None ≡ Some x = sym (none_runs p w.named fr.method w.runs named_at) ∙ at in cc)
      by (Some x) at (Some n) named_at =
          let program = is_programs p ac fr.method x st.number at st.id in
          let fit = plain.program fr.method n x w.runs named_at at program in
          record {
            row = subst IsCallRow (sym same) row;
            calls = ap called_method same ∙ w.calls;
            method = n;
            named_at = named_at;
            running = x;
            running_at = at;
            fit = fit;
            normal = normal;
            thrown = thrown;
            makes = subst (λ (a : Action). IsMadeByNew p h a fr.locals.this) (sym same) w.makes;
            later = subst (λ (a : Action). IsMadeAfter p caller.locals a fr.locals.this) (sym same) w.after;
          }

  module _ (c d : Config) (fr caller : Frame) (frs : List Frame) (i : ℕ) (s : Step) (pos : Pos) (q : Completion) (agrees : Agrees p (fr ∷ caller ∷ frs) c.heap c.entries)
      (here : slice_get (frame_steps p fr) i ≡ Some s) (is : s.action ≡ actions.End q) (before : Agree p c) (sup : IsSupported p c.heap (fr ∷ caller ∷ frs)) (making : IsBeingMade p c.heap fr caller) (keeps : ShowsOperands p c.heap fr caller (length frs + 1)) (fields : FieldsHold p (fr ∷ caller ∷ frs) c.heap)
      (covered : AreCovered p c.heap (fr ∷ caller ∷ frs)) (sight : ActsInSight p c.heap caller) (sights : AllActInSight p c.heap frs) (ranges : All (λ (x : Frame). LocalsInRange c.heap x.locals) (fr ∷ caller ∷ frs)) (owned : FieldsOwn p c.heap) (targets : HaveTargets p (caller ∷ frs)) where
    abbrev e : Option ClassId
    e = exception_class p c.heap (thrown_in fr.locals q)

    abbrev steps : List Step
    steps = frame_steps p caller

    abbrev w : WaitsFor p c.heap caller fr
    w = agrees.stacked.0

    below : Stands p caller
    below = agrees.standing.1.0

    -- all steps of the caller are steps of its call
    one_call : (j : ℕ) (t : Step) → slice_get steps j ≡ Some t → t.action ≡ w.step.action
    one_call j t there =
        one_action p below.number caller.control w.index j w.step t (step_here p caller below w.index w.step w.here) (step_here p caller below j t there)
        (call_may w.step.action (row_of w.step.action w.named w.calls))

    in_frames : All (λ (x : Frame). LocalsInRange c.heap x.locals) (caller ∷ frs)
    in_frames = All-tail (λ (x : Frame). LocalsInRange c.heap x.locals) fr (caller ∷ frs) ranges

    holders : HoldersAreUnlinked (is_heavy_class p) c.heap
    holders = contents_have_holders p ac (fr ∷ caller ∷ frs) c.heap fields.contents

    -- what the caller owns, and its call does not create anew, is old for the frame that ends, and spared
    apart : (o : ℕ) (x : Object) → object_at c.heap o ≡ Some x → IsHeavyObject p x → x.owner ≡ owners.Frame (length frs + 1) → is_renewed p c.heap caller o ≡ false → IsCountedOn p c.heap covered.0 (caller ∷ frs) fr o x
    apart = apart_at_end p ac forms c.heap c.entries fr caller frs agrees fields covered (All-head (λ (x : Frame). LocalsInRange c.heap x.locals) caller frs in_frames) owned targets.0 sight.makes

    no_way : (o : Outcome) → o ≡ went c → o ≡ went d → Agree p d
    no_way o stays same = subst (Agree p) (let one : c ≡ d = (let both : went c ≡ went d = sym stays ∙ same in cc) in one) before

    back_step : (t : Step) → IsBackStep p steps e w.named t → Agree p (returned p c fr caller frs pos q e w.named t)
    back_step t back =
        returned_agrees p ac forms names fr caller frs c.heap c.entries agrees i s here q is back.index t back.here w.named
        (answer c.heap fr caller q agrees.standing.0 below w t (one_call back.index t back.here) back.normal (λ x thrown. (let way = back.thrown x thrown in (way.0, way.2)))) sup.0 making keeps fields.leads covered.0 covered.2 fields.dispatched.0
        covered.3 fields.owning sight sights (All-head (λ (x : Frame). LocalsInRange c.heap x.locals) fr (caller ∷ frs) ranges)
        (All-head (λ (x : Frame). LocalsInRange c.heap x.locals) caller frs in_frames) back sup.1 fields.unfinished.1 (All-tail (λ (x : Frame). LocalsInRange c.heap x.locals) caller frs in_frames) owned holders targets apart
        (stands_on p ac c.heap caller below back.index t (answered fr.locals.this t.action (result_value fr.locals (method_at p fr.method) q) e) back.here) pos

    back_agrees : (r : Return) → IsBack p steps e w.named r → returned_by p c fr caller frs pos q r ≡ went d → Agree p d
    back_agrees (Back x m t) (thrown, named, back) same =
        subst (Agree p) (let one : returned p c fr caller frs pos q x m t ≡ d = (let both : went (returned p c fr caller frs pos q x m t) ≡ went d = same in cc) in one)
        (subst (λ (z : Option ClassId). Agree p (returned p c fr caller frs pos q z m t)) (sym thrown)
        (subst (λ (k : MethodId). Agree p (returned p c fr caller frs pos q e k t)) (sym named) (back_step t back)))
    back_agrees (StrayBack x at) back same = absurd (let never : stray x at ≡ went d = same in cc)
    back_agrees NoWay back same = no_way (went c) refl same

    ends_below : end p c fr (caller ∷ frs) pos q ≡ went d → Agree p d
    ends_below same = back_agrees (return_move p steps e) (back_is p caller below w.named w.index w.step w.here w.calls e) same

  end_agrees : (c d : Config) (fr : Frame) (frs : List Frame) (i : ℕ) (s : Step) (pos : Pos) (q : Completion) → Agrees p (fr ∷ frs) c.heap c.entries
      → slice_get (frame_steps p fr) i ≡ Some s → s.action ≡ actions.End q → Agree p c → IsSupported p c.heap (fr ∷ frs) → AreBeingMade p c.heap (fr ∷ frs) → TopShowsOperands p c.heap (fr ∷ frs)
      → FieldsHold p (fr ∷ frs) c.heap → AreCovered p c.heap (fr ∷ frs) → AllActInSight p c.heap (fr ∷ frs) → All (λ (x : Frame). LocalsInRange c.heap x.locals) (fr ∷ frs) → FieldsOwn p c.heap → HaveTargets p frs → end p c fr frs pos q ≡ went d → Agree p d
  end_agrees c d fr [] i s pos q agrees here is before sup making keeps fields covered sight ranges owned targets same =
      subst (Agree p) (let one : main_ended p c fr pos q ≡ d = (let both : went (main_ended p c fr pos q) ≡ went d = same in cc) in one)
      (main_agrees p ac fr c.heap c.entries agrees i s here q is pos)
  end_agrees c d fr (caller ∷ frs) i s pos q agrees here is before sup making keeps fields covered sight ranges owned targets same =
      ends_below c d fr caller frs i s pos q agrees here is before sup making.0 keeps fields covered sight.1.0 sight.1.1 ranges owned targets same

  -- ---- the start of a call

  -- a constructor is the one that is named
  itself : (h : HeapContents) (l : Locals) (a : Action) (named runs : MethodId) → runs ≡ running p h l a named → RunsItself a named runs
  itself h l actions.Skip named runs is = tt
  itself h l (actions.New m d n) named runs is = is
  itself h l (actions.Super m d n) named runs is = is
  itself h l a named runs is = tt

  begin_agrees : (c : Config) (fr : Frame) (frs : List Frame) (named runs : MethodId) (a : Action) (pos : Pos) → Agrees p (fr ∷ frs) c.heap c.entries
      → IsStartMove p c.heap c.arrays fr.locals (frame_steps p fr) named runs a → Supports p c.heap fr → KeepsTargets p fr → LocalsInRange c.heap fr.locals → (old : ℕ → Bool) → IsCovered p c.heap gives_none renews_none old frs fr → Agree p (began p c fr frs named runs a pos)
  begin_agrees c fr frs named runs a pos agrees next sup targets ranges old covered =
      subst (λ (b : Action). Agree p (began p c fr frs named runs b pos)) next.same
      (began_agrees p ac forms fr (callee next.step.action) frs c.heap c.entries agrees next.index next.step next.here named runs start sup targets ranges old covered pos)
    where
      callee : Action → Frame
      callee b = begun p runs (self_begun fr.locals b c.heap) (argument_values fr.locals b (method_at p named))

      few : length (argument_values fr.locals next.step.action (method_at p named)) ≤ length next.running.sig.params.items
      few =
          let count = length-map-range_with_len (operand_of fr.locals next.step.action) 1 (length (params_in (method_at p named))) in
          let same = same_count next.running.sig.params.items next.method.sig.params.items next.fit.types in
          let named' : length (params_in (method_at p named)) ≡ length next.method.sig.params.items = ap (λ (m : Option Method). length (params_in m)) next.named_at in
          omega (arith, count, same, named')

      start : IsStarted p fr (callee next.step.action) c.heap next.step named runs
      start = record {
        row = subst IsCallRow (sym next.same) next.row;
        calls = ap called_method next.same ∙ next.calls;
        method = next.method;
        named_at = next.named_at;
        running = next.running;
        may = next.may;
        itself = itself c.heap fr.locals next.step.action named runs (next.selected ∙ ap (λ (b : Action). running p c.heap fr.locals b named) (sym next.same));
        fit = next.fit;
        begun = has_begun p ac runs (self_begun fr.locals next.step.action c.heap) (argument_values fr.locals next.step.action (method_at p named)) next.running next.running_at few next.body;
      }

  -- ---- all moves

  library_step : (c : Config) (fr : Frame) (named m : MethodId) (x : Conduct) (s : Step) → IsLibraryMove p c.heap c.arrays fr.locals (frame_steps p fr) named m x s
      → IsLibraryStep p c.heap c.arrays fr.locals s named m x (call_value p c fr named m x s)
  library_step c fr named m x s next = record {
    answers = next.answers;
    thrown = λ e is. (let to = next.thrown e is in (to.0, to.2));
    normal = next.normal;
    by = next.by;
    ran = next.ran;
    count = length (arguments_shared c.arrays fr.locals s.action (method_at p named));
    value = refl;
    row = next.row;
    library = next.library;
    other = next.other;
    made = λ e is. (
      next.edge e is,
      subst (FitsMethod p (method_at p m)) is next.fits,
      made_number (length (arguments_shared c.arrays fr.locals s.action (method_at p named))) (next_number c.heap) (method_at p m) (positions fr.locals s.action (next_number c.heap) x) x e is,
    );
  }

  -- a step within the frame
  inner_step : (c : Config) (fr : Frame) (frs : List Frame) (e : Option ClassId) (s : Step) (v : Value) → Agrees p (fr ∷ frs) c.heap c.entries → (i : ℕ) → slice_get (frame_steps p fr) i ≡ Some s
      → IsInnerStep p c.heap c.arrays fr.method fr.locals e s → IsSupported p c.heap (fr ∷ frs) → AllActInSight p c.heap (fr ∷ frs) → FieldsHold p (fr ∷ frs) c.heap → HaveTargets p (fr ∷ frs)
      → AreCovered p c.heap (fr ∷ frs) → All (λ (x : Frame). LocalsInRange c.heap x.locals) (fr ∷ frs) → FieldsOwn p c.heap
      → Agrees p (frame_after p c.heap fr s v ∷ frs) (inner p c.heap fr.method fr.locals e s.action s.pos (held_by (frame_after p c.heap fr s v ∷ frs))).heap
      (c.entries ++ (inner p c.heap fr.method fr.locals e s.action s.pos (held_by (frame_after p c.heap fr s v ∷ frs))).lines)
  inner_step c fr frs e s v agrees i here (inl plain) sup sight fields targets covered ranges owned =
      inner_agrees p ac forms fr frs c.heap c.entries agrees i s here e v c.arrays (inl plain) sight.0.updates fields.contents throws (stands_on p ac c.heap fr agrees.standing.0 i s v here)
  inner_step c fr frs e s v agrees i here (inr (inl null)) sup sight fields targets covered ranges owned =
      inner_agrees p ac forms fr frs c.heap c.entries agrees i s here e v c.arrays (inr null) sight.0.updates fields.contents throws (stands_on p ac c.heap fr agrees.standing.0 i s v here)
  inner_step c fr frs e s v agrees i here (inr (inr store)) sup sight fields targets covered ranges owned =
      let good = sup.0.stores i s store.field store.temp here store.action in
      store_agrees p ac forms fr frs c.heap c.entries agrees i s here store.field store.temp store.action v good (sup.2 i s store.field store.temp here store.action good.holder good.object good.this good.there) targets.1 covered.0 covered.3
      fields.unfinished.1 (All-tail (λ (x : Frame). LocalsInRange c.heap x.locals) fr frs ranges) owned (contents_have_holders p ac (fr ∷ frs) c.heap fields.contents) sight.1 e store.normal
      (stands_on p ac c.heap fr agrees.standing.0 i s v here)

  moved_agrees : (c d : Config) (fr : Frame) (frs : List Frame) (mv : Move) → Agrees p (fr ∷ frs) c.heap c.entries → IsNext p c.heap c.arrays fr.method fr.locals (frame_steps p fr) mv → moved p c fr frs mv ≡ went d
      → Agree p c → IsSupported p c.heap (fr ∷ frs) → HaveTargets p (fr ∷ frs) → All (λ (x : Frame). LocalsInRange c.heap x.locals) (fr ∷ frs) → AreBeingMade p c.heap (fr ∷ frs) → TopShowsOperands p c.heap (fr ∷ frs) → FieldsHold p (fr ∷ frs) c.heap
      → AllActInSight p c.heap (fr ∷ frs) → AreCovered p c.heap (fr ∷ frs) → FieldsOwn p c.heap → Agree p d
  moved_agrees c d fr frs (Inner e s) agrees next same before sup targets ranges making keeps fields sight covered owned =
      let made = made_value p c.heap c.arrays c.statics (next_choice c.choices c.used) fr.locals s.action in
      let v = thrown_value c.heap e made in
      subst (Agree p) (let one : within p c fr frs e s ≡ d = (let both : went (within p c fr frs e s) ≡ went d = same in cc) in one)
      (inner_step c fr frs e s v agrees next.0 next.1 next.2 sup sight fields targets covered ranges owned)
  moved_agrees c d fr frs (Start named runs a pos) agrees next same before sup targets ranges making keeps fields sight covered owned =
      subst (Agree p) (let one : began p c fr frs named runs a pos ≡ d = (let both : went (began p c fr frs named runs a pos) ≡ went d = same in cc) in one)
      (begin_agrees c fr frs named runs a pos agrees next sup.0 targets.0 (All-head (λ (x : Frame). LocalsInRange c.heap x.locals) fr frs ranges) covered.0 covered.2)
  moved_agrees c d fr frs (Library named m x s) agrees next same before sup targets ranges making keeps fields sight covered owned =
      subst (Agree p) (let one : library_went p c fr frs named m x s ≡ d = (let both : went (library_went p c fr frs named m x s) ≡ went d = same in cc) in one)
      (library_agrees p ac forms names fr frs c.heap c.entries agrees next.index s next.here named m x (call_value p c fr named m x s) c.arrays (library_step c fr named m x s next) (All-head (λ (x : Frame). LocalsInRange c.heap x.locals) fr frs ranges) fields.leads covered.0 covered.2 covered.3 fields.owning sight.0 sight.1 fields.unfinished (All-tail (λ (x : Frame). LocalsInRange c.heap x.locals) fr frs ranges) owned (contents_have_holders p ac (fr ∷ frs) c.heap fields.contents) targets gives throws
      (stands_on p ac c.heap fr agrees.standing.0 next.index s (call_value p c fr named m x s) next.here))
  moved_agrees c d fr frs (End pos q) agrees next same before sup targets ranges making keeps fields sight covered owned = end_agrees c d fr frs next.0 next.1 pos q agrees next.2 next.3 before sup making keeps fields covered sight ranges owned targets.1 same
  moved_agrees c d fr frs (Stray e pos) agrees next same before sup targets ranges making keeps fields sight covered owned = absurd (let never : stray e pos ≡ went d = same in cc)
  moved_agrees c d fr frs Rest agrees next same before sup targets ranges making keeps fields sight covered owned = subst (Agree p) (let one : c ≡ d = (let both : went c ≡ went d = same in cc) in one) before

  by_frames : (c d : Config) (frs : List Frame) → Agrees p frs c.heap c.entries → HaveTargets p frs → IsSupported p c.heap frs → All (λ (fr : Frame). LocalsInRange c.heap fr.locals) frs → AreBeingMade p c.heap frs → TopShowsOperands p c.heap frs
      → FieldsHold p frs c.heap → AllActInSight p c.heap frs → AreCovered p c.heap frs → FieldsOwn p c.heap → moved_by p c frs (top_move p c frs) ≡ went d → Agree p c → Agree p d
  by_frames c d [] agrees targets sup ranges making keeps fields sight covered owned same before = absurd (let never : ended c.ended ≡ went d = same in cc)
  by_frames c d (fr ∷ frs) agrees targets sup ranges making keeps fields sight covered owned same before =
      moved_agrees c d fr frs (top_move p c (fr ∷ frs)) agrees
      (next_is p ac forms c.heap c.arrays (next_choice c.choices c.used) fr agrees.standing.0 targets.0 agrees.classes) same before sup targets ranges making keeps fields sight covered owned

  pub step_agrees : (c d : Config) → Agree p c → HaveTargets p c.frames → FieldsHold p c.frames c.heap → AllActInSight p c.heap c.frames → AreCovered p c.heap c.frames → IsSupported p c.heap c.frames → AreInRange c
      → AreBeingMade p c.heap c.frames → TopShowsOperands p c.heap c.frames → FieldsOwn p c.heap → step p c ≡ went d → Agree p d
  unfolding step
  step_agrees c d agrees targets fields sight covered sup ranges making keeps owned same = by_frames c d c.frames agrees targets sup ranges.frames making keeps fields sight covered owned same agrees
