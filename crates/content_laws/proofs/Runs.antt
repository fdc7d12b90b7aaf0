-- What owning fields hold and own, over each step of a run.
use Rattle.std.specs.Prelude.{zero, suc}
use Rattle.std.proofs.Common.{Bool, ◌≡◌, ℕ, true, false, true≢false, Some, None, List, [], ◌∷◌, slice_get, refl, sym, ap, ◌∙◌, subst}
use Rattle.rlc_base.specs.declared.place.Pos.{Pos}
use Rattle.program_model.specs.declared.kinds.ClassId.{ClassId}
use Rattle.program_model.specs.declared.kinds.MethodId.{MethodId}
use Rattle.program_model.specs.declared.program.Method.{Method}
use Rattle.program_model.specs.declared.program.Program.{Program}
use Rattle.program_model.specs.Lookups.{method_at}
use Rattle.must_call_sets.specs.Bodies.{constructs}
use Rattle.java_control.specs.Control.{Step}
use Rattle.control_actions.specs.declared.action.Action.TheVariants as actions
use Rattle.control_actions.specs.declared.action.Completion.{Completion}
use Rattle.covering_laws.specs.Accept.{Accept}
use Rattle.stub_conduct.specs.declared.choice.Choices.{Choices}
use Rattle.ledger_state.specs.Contents.{HeapContents}
use Rattle.ledger_state.specs.Heaps.{object_at}
use Rattle.ledger_state.specs.declared.object.Object.{Object}
use Rattle.ledger_state.specs.declared.value.Value.TheVariants as values
use Rattle.ledger_obligations.specs.Obligations.{end_frame}
use Rattle.covering_laws.specs.Operations.{next_choice}
use Rattle.covering_laws.specs.Configuration.{Config, Frame}
use Rattle.covering_laws.specs.Choosing.{frame_steps}
use Rattle.ledger_steps.specs.Ends.{exception_class, thrown_in}
use Rattle.covering_laws.specs.Moves.{Move, Inner, Start, Library, End, Stray, Rest}
use Rattle.covering_laws.specs.Moves.{return_move}
use Rattle.covering_laws.specs.LedgerRunsOutcomes.{went, ended, stray}
use Rattle.covering_laws.specs.Starts.{start_config}
use Rattle.covering_laws.specs.LedgerRunsSteps.{began, end, library_went, main_ended, moved, moved_by, step, top_move, within}
use Rattle.covering_laws.specs.Agreement.{Agree, Agrees}
use Rattle.covering_laws.specs.PlainForms.{HasPlainForms}
use Rattle.covering_laws.specs.Heaps.{HasEarlierLinks}
use Rattle.covering_laws.specs.Frames.{HaveTargets, KeepsTargets}
use Rattle.covering_laws.specs.Linking.{LinkedAreAliases}
use Rattle.covering_laws.specs.Nexts.{IsNext}
use Rattle.covering_laws.proofs.Cases.{next_is}
use Rattle.covering_laws.proofs.Returns.{back_is}
use Rattle.covering_laws.specs.FieldContents.{FieldsHold, FieldsOwn, IsBeingMade, is_made_in}
use Rattle.covering_laws.specs.PlaceFacts.{AreCovered, IsCovered, IsOld, gives_none, renews_none}
use Rattle.covering_laws.specs.Ranges.{AreInRange, FieldsInRange, LocalsInRange}
use Rattle.covering_laws.proofs.RenewingFrames.{all_renew_in_hand}
use Rattle.covering_laws.proofs.ContentHolders.{contents_have_holders}
use Rattle.std.proofs.lemmas.List.Elements.{All-tail}
use Rattle.content_laws.proofs.ContentFrames.{begun_method}
use Rattle.content_laws.proofs.Goes.{contents_go_on, leaves_goes, leaves_roots}
use Rattle.content_laws.proofs.Leaves.{end_frame_leaves}
use Rattle.content_laws.proofs.LinkSteps.{leads_go_on}
use Rattle.content_laws.proofs.Promised.{promises_its_own}
use Rattle.content_laws.proofs.Steps.{LocalsIn}
use Rattle.content_laws.specs.Going.{Goes, NoName}
use Rattle.content_laws.specs.Filled.{TopStoresReadily}
use Rattle.content_laws.specs.Exits.{EndsByClass, TopEndsByClass}
use Rattle.covering_laws.specs.Arguments.{HaveArguments}
use Rattle.content_laws.proofs.Returns.{back_hold}
use Rattle.covering_laws.specs.Sight.{AllActInSight}
use Rattle.content_laws.proofs.Steps.{owning_on}
use Rattle.content_laws.proofs.TopSteps.{began_hold, inner_step, library_creates, library_hold, stores_readily}

module _ (p : Program) (ac : Accept p) (c : Config) (fr : Frame) (agrees : Agrees p (fr ∷ []) c.heap c.entries) (hold : FieldsHold p (fr ∷ []) c.heap) where
  abbrev h : HeapContents
  h = c.heap

  pub main_hold : (pos : Pos) (q : Completion) → FieldsHold p (main_ended p c fr pos q).frames (main_ended p c fr pos q).heap
  main_hold pos q = record {
    contents = contents_go_on p h (end_frame 1 h) NoName goes (promises_its_own p ac) hold.leads (fr ∷ []) [] hold.contents (λ o x y w f at now unmet on owner content m e n fin there' class interest must never. absurd never)
        (λ o x y w f content at owner un' made'. absurd (no_constructor w content.field.class made'));
    owning = owning_on p h (end_frame 1 h) NoName goes hold.owning;
    leads = leads_go_on p h (end_frame 1 h) NoName goes agrees.links hold.leads ((end_frame_leaves 1 h).links agrees.links);
    new = tt;
    fresh = tt;
    unfinished = tt;
    dispatched = tt;
  }
    where
      goes : Goes p h (end_frame 1 h) NoName
      goes = leaves_goes p h (end_frame 1 h) NoName (leaves_roots h (end_frame 1 h) agrees.links (end_frame_leaves 1 h)) (end_frame_leaves 1 h)

      no_constructor : (w : ℕ) (c' : ClassId) → is_made_in p w c' (fr ∷ []) ≡ true → ⊥
      no_constructor w c' made' = true≢false (sym made' ∙ rw agrees.stacked.1 refl)

module _ (p : Program) (ac : Accept p) (forms' : HasPlainForms p) (c d : Config)
    (making : (fr caller : Frame) (rest : List Frame) → c.frames ≡ fr ∷ caller ∷ rest → IsBeingMade p c.heap fr caller) (sight : AllActInSight p c.heap c.frames) (owned : FieldsOwn p c.heap) (aliases : LinkedAreAliases p c.heap) (now : HasEarlierLinks d.heap) where
  links_then : (x : Config) → went x ≡ went d → HasEarlierLinks x.heap
  links_then x is = subst (λ (y : Config). HasEarlierLinks y.heap) (let same : x ≡ d = cc in sym same) now

  carried : (x : Config) → went x ≡ went d → FieldsHold p x.frames x.heap → FieldsHold p d.frames d.heap
  carried x is held = subst (λ (y : Config). FieldsHold p y.frames y.heap) (let same : x ≡ d = cc in same) held

  ended_hold : (fr : Frame) (frs : List Frame) (agrees : Agrees p (fr ∷ frs) c.heap c.entries) (old : ℕ → Bool) (aged : IsOld p c.heap frs fr old) (covered : IsCovered p c.heap gives_none renews_none old frs fr) (in' : LocalsIn c.heap (fr ∷ frs)) (ranges : FieldsInRange c.heap)
      (hold : FieldsHold p (fr ∷ frs) c.heap) → HaveArguments p (fr ∷ frs) → EndsByClass p c.heap fr → c.frames ≡ fr ∷ frs → (pos : Pos) (q : Completion) (i : ℕ) (s : Step) → slice_get (frame_steps p fr) i ≡ Some s → s.action ≡ actions.End q
      → end p c fr frs pos q ≡ went d → FieldsHold p d.frames d.heap
  ended_hold fr [] agrees old aged covered in' ranges hold given exits frames pos q i s here is same =
      carried (main_ended p c fr pos q) same (main_hold p ac c fr agrees hold pos q)
  ended_hold fr (caller ∷ rest) agrees old aged covered in' ranges hold given exits frames pos q i s here is same =
      back_hold p ac forms' c d fr caller rest agrees old aged covered in' hold (making fr caller rest frames) given.0 i s q here is (exits i s q here is) (subst (λ (gs : List Frame). AllActInSight p c.heap gs) frames sight).1.0 frames pos
      (return_move p (frame_steps p caller) (exception_class p c.heap (thrown_in fr.locals q)))
      (back_is p caller agrees.standing.1.0 agrees.stacked.0.named agrees.stacked.0.index agrees.stacked.0.step agrees.stacked.0.here agrees.stacked.0.calls (exception_class p c.heap (thrown_in fr.locals q)))
      same

  moved_hold : (fr : Frame) (frs : List Frame) (agrees : Agrees p (fr ∷ frs) c.heap c.entries) (old : ℕ → Bool) (aged : IsOld p c.heap frs fr old) (covered : IsCovered p c.heap gives_none renews_none old frs fr) (in' : LocalsIn c.heap (fr ∷ frs)) (ranges : FieldsInRange c.heap)
      (hold : FieldsHold p (fr ∷ frs) c.heap) → KeepsTargets p fr → HaveArguments p (fr ∷ frs) → EndsByClass p c.heap fr → c.frames ≡ fr ∷ frs → (mv : Move) → IsNext p c.heap c.arrays fr.method fr.locals (frame_steps p fr) mv → moved p c fr frs mv ≡ went d
      → FieldsHold p d.frames d.heap
  moved_hold fr frs agrees old aged covered in' ranges hold targets given exits frames (Inner e s) next same =
      carried (within p c fr frs e s) same (inner_step p ac forms' c fr frs agrees old covered in' ranges hold (subst (λ (gs : List Frame). AllActInSight p c.heap gs) frames sight).0 (subst (λ (gs : List Frame). AllActInSight p c.heap gs) frames sight).1 targets owned aliases e s next.0 next.1 next.2 (links_then (within p c fr frs e s) same))
  moved_hold fr frs agrees old aged covered in' ranges hold targets given exits frames (Start named runs a pos) next same =
      carried (began p c fr frs named runs a pos) same (began_hold p ac forms' c fr frs agrees old covered in' ranges hold named runs a pos next (links_then (began p c fr frs named runs a pos) same))
  moved_hold fr frs agrees old aged covered in' ranges hold targets given exits frames (Library named m x s) next same =
      carried (library_went p c fr frs named m x s) same (library_hold p ac forms' c fr frs agrees old covered in' ranges hold named m x s next (library_creates p ac forms' c fr frs agrees old covered in' ranges hold (subst (λ (gs : List Frame). AllActInSight p c.heap gs) frames sight).0 named m x s next) (links_then (library_went p c fr frs named m x s) same))
  moved_hold fr frs agrees old aged covered in' ranges hold targets given exits frames (End pos q) next same = ended_hold fr frs agrees old aged covered in' ranges hold given exits frames pos q next.0 next.1 next.2 next.3 same
  moved_hold fr frs agrees old aged covered in' ranges hold targets given exits frames (Stray e pos) next same = absurd (let never : stray e pos ≡ went d = same in cc)
  moved_hold fr frs agrees old aged covered in' ranges hold targets given exits frames Rest next same = subst (λ (x : Config). FieldsHold p x.frames x.heap) (let one : c ≡ d = cc in one) (subst (λ (gs : List Frame). FieldsHold p gs c.heap) (sym frames) hold)

  by_frames : (frs : List Frame) → c.frames ≡ frs → Agrees p frs c.heap c.entries → HaveTargets p frs → LocalsIn c.heap frs → FieldsInRange c.heap → AreCovered p c.heap frs → FieldsHold p frs c.heap → HaveArguments p frs → TopEndsByClass p c.heap frs
      → moved_by p c frs (top_move p c frs) ≡ went d → FieldsHold p d.frames d.heap
  by_frames [] frames agrees targets in' ranges covered hold given exits same = absurd (let never : ended c.ended ≡ went d = same in cc)
  by_frames (fr ∷ frs) frames agrees targets in' ranges covered hold given exits same =
      moved_hold fr frs agrees covered.0 covered.1 covered.2 in' ranges hold targets.0 given exits frames (top_move p c (fr ∷ frs)) (next_is p ac forms' c.heap c.arrays (next_choice c.choices c.used) fr agrees.standing.0 targets.0 agrees.classes) same

pub fields_hold_step : (p : Program) → Accept p → HasPlainForms p → (c d : Config) → Agree p c → HaveTargets p c.frames → AreInRange c → AreCovered p c.heap c.frames → FieldsHold p c.frames c.heap → FieldsOwn p c.heap → LinkedAreAliases p c.heap
    → ((fr caller : Frame) (rest : List Frame) → c.frames ≡ fr ∷ caller ∷ rest → IsBeingMade p c.heap fr caller) → AllActInSight p c.heap c.frames → HasEarlierLinks d.heap → HaveArguments p c.frames → TopEndsByClass p c.heap c.frames → step p c ≡ went d
    → FieldsHold p d.frames d.heap
unfolding step
fields_hold_step p ac forms' c d agrees targets in' covered hold owned aliases making sight now given exits same =
    by_frames p ac forms' c d making sight owned aliases now c.frames refl agrees targets in'.frames in'.fields covered hold given exits same

-- where the top frame stores into an owning field of `this`, it runs a constructor, or `this` is finished
pub top_stores_readily : (p : Program) → Accept p → HasPlainForms p → (c : Config) → Agree p c → HaveTargets p c.frames → AreInRange c → AreCovered p c.heap c.frames → FieldsHold p c.frames c.heap → FieldsOwn p c.heap → LinkedAreAliases p c.heap
    → AllActInSight p c.heap c.frames → TopStoresReadily p c.heap c.frames
top_stores_readily p ac forms c agrees targets in' covered hold owned aliases sight = by c.frames agrees targets in'.frames covered hold sight
  where
    by : (frs : List Frame) → Agrees p frs c.heap c.entries → HaveTargets p frs → LocalsIn c.heap frs → AreCovered p c.heap frs → FieldsHold p frs c.heap → AllActInSight p c.heap frs → TopStoresReadily p c.heap frs
    by [] agrees' targets' ranges covered' hold' sight' = tt
    by (fr ∷ frs) agrees' targets' ranges covered' hold' sight' = stores_readily p ac forms c fr frs agrees' covered'.0 covered'.2 ranges in'.fields hold' sight'.0 sight'.1 targets'.0 owned aliases
        (all_renew_in_hand p ac forms c.heap agrees'.ends agrees'.links owned (contents_have_holders p ac (fr ∷ frs) c.heap hold'.contents) fr frs agrees'.standing.1 targets'.1 agrees'.stacked
        (All-tail (λ (x : Frame). LocalsInRange c.heap x.locals) fr frs ranges) covered'.0 covered'.3 hold'.unfinished.1 sight'.1)

pub fields_hold_at_start : (p : Program) (main : MethodId) (m : Method) (choices : Choices) → method_at p main ≡ Some m → constructs (Some m) ≡ false
    → FieldsHold p (start_config p main choices).frames (start_config p main choices).heap
unfolding start_config
fields_hold_at_start p main m choices at absent = record {
  contents = λ o x w f there' unmet owner. absurd (none o x there');
  owning = λ o x w f there' owner. absurd (none o x there');
  leads = λ n o x y there' root there'' heavy owes. absurd (none n x there');
  new = ((λ w declares new this. absurd (true≢false (sym new ∙ ap (λ (k : MethodId). constructs (method_at p k)) (begun_method p main values.Nothing (values.Array 0 ∷ [])) ∙ ap constructs at ∙ absent))), tt);
  fresh = tt;
  unfinished = ((λ w y declares new this there'. absurd (none w y there')), tt);
  dispatched = tt;
}
  where
    none : (n : ℕ) (x : Object) → object_at (record { objects = []; fields = [] }) n ≡ Some x → ⊥
    none zero x is = let never : None ≡ Some x = is in cc
    none (suc n) x is = let never : None ≡ Some x = is in cc
