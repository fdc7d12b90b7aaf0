-- Each step of a run leaves all that is held in range.
use Rattle.std.proofs.Common.{◌≡◌, ℕ, inl, inr, true, Some, None, List, [], ◌∷◌, All, length, refl, sym, ap, ◌∙◌, subst}
use Rattle.std.proofs.lemmas.List.Elements.{All-head, All-nil, All-cons, All-tail}
use Rattle.program_model.specs.declared.kinds.ClassId.{ClassId}
use Rattle.program_model.specs.declared.kinds.ElementType.TheVariants as elements
use Rattle.program_model.specs.declared.kinds.MethodId.{MethodId}
use Rattle.program_model.specs.declared.program.Program.{Program}
use Rattle.program_model.specs.Lookups.{method_at}
use Rattle.rlc_base.specs.declared.place.Pos.{Pos}
use Rattle.std.specs.Prelude.{pos, ◌≤◌, ◌<◌}
use Rattle.std.proofs.Common.{arith}
use Rattle.ledger_steps.specs.Bodies.{constructs}
use Rattle.java_control.specs.Calls.{called_method}
use Rattle.java_control.specs.Control.{Step}
use Rattle.control_actions.specs.declared.action.Action.{Action}
use Rattle.control_actions.specs.declared.action.Action.TheVariants as actions
use Rattle.control_actions.specs.declared.action.Completion.{Completion}
use Rattle.fact_laws.specs.Accept.{Accept}
use Rattle.fact_laws.specs.Paths.{move_of}
use Rattle.fact_laws.specs.Naming.{IsOfItsKind}
use Rattle.fact_laws.proofs.NamedReached.{names_what_is_there}
use Rattle.stub_conduct.specs.declared.choice.Choices.{Choices}
use Rattle.stub_conduct.specs.declared.choice.Conduct.{Conduct}
use Rattle.stub_conduct.specs.declared.choice.Conduct.TheVariants as conducts
use Rattle.ledger_state.specs.Classes.{library_array}
use Rattle.ledger_state.specs.Contents.{HeapContents}
use Rattle.ledger_state.specs.Heaps.{next_number}
use Rattle.ledger_state.specs.declared.array.ArrayObject.{ArrayObject}
use Rattle.ledger_state.specs.declared.locals.Locals.{Locals}
use Rattle.ledger_state.specs.declared.object.StoredStatic.{StoredStatic}
use Rattle.ledger_state.specs.declared.value.Value.TheVariants as values
use Rattle.ledger_moves.specs.Operations.{next_choice}
use Rattle.ledger_steps.specs.LedgerCallsCalls.{position_of}
use Rattle.ledger_steps.specs.Conducts.{arguments_shared, conduct_value, made_by_new, positions}
use Rattle.ledger_moves.specs.Configuration.{Config, Frame}
use Rattle.ledger_moves.specs.Choosing.{frame_steps}
use Rattle.ledger_steps.specs.Ends.{exception_class, thrown_in}
use Rattle.ledger_moves.specs.Moves.{Move, Inner, Start, Library, End, Stray, Rest}
use Rattle.ledger_moves.specs.Moves.{Return, Back, StrayBack, NoWay, return_move}
use Rattle.agreement.specs.LedgerRunsOutcomes.{went, ended, stray}
use Rattle.agreement.specs.Starts.{start_config}
use Rattle.agreement.specs.LedgerRunsSteps.{began, end, library_went, main_ended, moved, moved_by, returned, returned_by, step, top_move, within}
use Rattle.agreement.specs.Agreement.{Agree, AllStand, HasMadeClasses, Stands}
use Rattle.agreement.specs.PlainForms.{HasPlainForms}
use Rattle.frame_laws.specs.Frames.{HaveTargets}
use Rattle.frame_laws.proofs.Ready.{step_there}
use Rattle.frame_laws.specs.Nexts.{IsConstantRead, IsLibraryMove, IsNext}
use Rattle.frame_laws.proofs.Cases.{next_is}
use Rattle.agreement.specs.Ranges.{AreInRange, IsInRange, IsStoredInRange, LocalsInRange}
use Rattle.frame_laws.proofs.Configs.{FramesIn, began_in_range, library_in_range, main_in_range, returned_in_range, within_in_range}
use Rattle.frame_laws.proofs.RangeGiven.{argument_in_range, existing_there, given_in_range, no_argument}
use Rattle.frame_laws.proofs.Growth.{IsMadeIn}
use Rattle.frame_laws.proofs.LibraryRuns.{constructor_itself}
use Rattle.frame_laws.proofs.RangeValues.{begun_in_range, nothing_in_range}

-- a call that gives an argument makes no object
makes_none : (p : Program) (h : HeapContents) (arrays : List ArrayObject) (l : Locals) (steps : List Step) (named m : MethodId) (d : Conduct) (s : Step) → IsLibraryMove p h arrays l steps named m d s
    → IsOfItsKind p s.action → d ≡ conducts.Argument → (n : ℕ) → made_by_new s.action n d ≡ None
makes_none p h arrays l steps named m d s next kind is n = go s.action refl kind
  where
    same_named : (k : MethodId) → called_method s.action ≡ Some k → k ≡ named
    same_named k calls = elim next.row [
      | inl call ↦ (let both : Some k ≡ Some named = sym calls ∙ call.1 in (let one : k ≡ named = cc in one))
      | inr reads ↦ absurd (not_read s.action k reads calls)
    ]
      where
        not_read : (a : Action) (k : MethodId) → IsConstantRead a → called_method a ≡ Some k → ⊥
        not_read actions.Skip k reads calls = reads
        not_read (actions.Plain q v) k reads calls = let never : None ≡ Some k = calls in cc
        not_read a k reads calls = reads

    go : (a : Action) → s.action ≡ a → IsOfItsKind p a → made_by_new a n d ≡ None
    go actions.Skip it kind = refl
    go (actions.New k e i) it kind =
        let new : constructs (method_at p named) ≡ true = ap (λ (z : MethodId). constructs (method_at p z)) (sym (same_named k (ap called_method it))) ∙ kind in
        absurd (no_argument p h arrays m next.by.0 (position_of None l s.action) s.action (ap (λ (z : MethodId). constructs (method_at p z)) (constructor_itself p named m next.answers new) ∙ new) (sym next.by.1 ∙ is))
    go a it kind = refl

thrown_made : (h k : HeapContents) (d : Conduct) (e : ClassId) → IsMadeIn h k d → d ≡ conducts.Throws e → next_number h < next_number k
thrown_made h k d e made is = subst (IsMadeIn h k) is made

fresh_made : (h k : HeapContents) (d : Conduct) (e : ClassId) → IsMadeIn h k d → d ≡ conducts.Fresh e → next_number h < next_number k
fresh_made h k d e made is = subst (IsMadeIn h k) is made

module _ (p : Program) (ac : Accept p) (forms : HasPlainForms p) (c d : Config) (fr : Frame) (frs : List Frame) (st : Stands p fr) (top : LocalsInRange c.heap fr.locals) (below : FramesIn c.heap frs) (in' : AreInRange c) where
  carried : (x : Config) → went x ≡ went d → AreInRange x → AreInRange d
  carried x is held = subst AreInRange (let same : x ≡ d = cc in same) held

  gives : (named m : MethodId) (x : Conduct) (s : Step) → IsLibraryMove p c.heap c.arrays fr.locals (frame_steps p fr) named m x s → (k : HeapContents) → next_number c.heap ≤ next_number k → IsMadeIn c.heap k x
      → IsInRange k (conduct_value (length (arguments_shared c.arrays fr.locals s.action (method_at p named))) (method_at p m) (positions fr.locals s.action (next_number c.heap) x) (next_number c.heap) x)
  gives named m x s next k more made =
      given_in_range k (length (arguments_shared c.arrays fr.locals s.action (method_at p named))) (method_at p m) (positions fr.locals s.action (next_number c.heap) x) (next_number c.heap)
      x
      (λ e is. (omega arith, thrown_made c.heap k x e made is)) (λ e is. (omega arith, fresh_made c.heap k x e made is))
      (λ j is. (let number = existing_there p c.heap c.arrays m next.by.0 (position_of None fr.locals s.action) s.action j (sym next.by.1 ∙ is) in (number.0, (let below = number.1 in omega (arith, below, more)))))
      (λ is. argument_in_range c.heap k more fr.locals top s.action (next_number c.heap) x (makes_none p c.heap c.arrays fr.locals (frame_steps p fr) named m x s next kind is (next_number c.heap)) (method_at p m))
    where
      kind : IsOfItsKind p s.action
      kind = (names_what_is_there p ac.well_formed.valid.typed st.number st.body fr.control next.index (move_of s) st.at st.control (step_there p fr st next.index s next.here)).1

  returned_in : (caller : Frame) (rest : List Frame) (at : Pos) (q : Completion) (r : Return) → LocalsInRange c.heap caller.locals → FramesIn c.heap rest
      → returned_by p c fr caller rest at q r ≡ went d → AreInRange d
  returned_in caller rest at q (Back e named t) waits more same = carried (returned p c fr caller rest at q e named t) same (returned_in_range p c fr caller rest top waits more in' at q e named t)
  returned_in caller rest at q (StrayBack e where') waits more same = absurd (let never : stray e where' ≡ went d = same in cc)
  returned_in caller rest at q NoWay waits more same = carried c same in'

  end_in : (frs : List Frame) (at : Pos) (q : Completion) → FramesIn c.heap frs → end p c fr frs at q ≡ went d → AreInRange d
  end_in [] at q more same = carried (main_ended p c fr at q) same (main_in_range p c fr [] top (All-nil (λ (x : Frame). LocalsInRange c.heap x.locals)) in' at q)
  end_in (caller ∷ rest) at q more same =
      returned_in caller rest at q (return_move p (frame_steps p caller) (exception_class p c.heap (thrown_in fr.locals q)))
      (All-head (λ (x : Frame). LocalsInRange c.heap x.locals) caller rest more) (All-tail (λ (x : Frame). LocalsInRange c.heap x.locals) caller rest more) same

  pub moved_in : (mv : Move) → IsNext p c.heap c.arrays fr.method fr.locals (frame_steps p fr) mv → moved p c fr frs mv ≡ went d → AreInRange d
  moved_in (Inner e s) next same = carried (within p c fr frs e s) same (within_in_range p c fr frs top below in' e s)
  moved_in (Start named runs a at) next same = carried (began p c fr frs named runs a at) same (began_in_range p c fr frs top below in' named runs next.method a at next.named_at)
  moved_in (Library named m x s) next same = carried (library_went p c fr frs named m x s) same (library_in_range p c fr frs top below in' named m x s (gives named m x s next))
  moved_in (End at q) next same = end_in frs at q below same
  moved_in (Stray e at) next same = absurd (let never : stray e at ≡ went d = same in cc)
  moved_in Rest next same = carried c same in'

by_frames : (p : Program) (ac : Accept p) (forms : HasPlainForms p) (c d : Config) (frs : List Frame) → HasMadeClasses p c.heap → AllStand p frs → HaveTargets p frs → FramesIn c.heap frs → AreInRange c
    → moved_by p c frs (top_move p c frs) ≡ went d → AreInRange d
by_frames p ac forms c d [] made standing' targets held in' same = absurd (let never : ended c.ended ≡ went d = same in cc)
by_frames p ac forms c d (fr ∷ frs) made standing' targets held in' same =
    moved_in p ac forms c d fr frs standing'.0 (All-head (λ (x : Frame). LocalsInRange c.heap x.locals) fr frs held) (All-tail (λ (x : Frame). LocalsInRange c.heap x.locals) fr frs held) in' (top_move p c (fr ∷ frs))
    (next_is p ac forms c.heap c.arrays (next_choice c.choices c.used) fr standing'.0 targets.0 made) same

pub ranges_step : (p : Program) → Accept p → HasPlainForms p → (c d : Config) → Agree p c → HaveTargets p c.frames → AreInRange c → step p c ≡ went d → AreInRange d
unfolding step
ranges_step p ac forms c d agrees targets in' same = by_frames p ac forms c d c.frames agrees.classes agrees.standing targets in'.frames in' same

pub ranges_at_start : (p : Program) (main : MethodId) (choices : Choices) → AreInRange (start_config p main choices)
unfolding start_config
ranges_at_start p main choices = record {
  frames = All-cons (λ (x : Frame). LocalsInRange empty x.locals) _ [] (begun_in_range p empty main values.Nothing (values.Array 0 ∷ []) (nothing_in_range empty)
      (All-cons (IsInRange empty) (values.Array 0) [] (λ k is. absurd (let never : None ≡ Some k = is in cc)) (All-nil (IsInRange empty)))) (All-nil (λ (x : Frame). LocalsInRange empty x.locals));
  fields = All-nil (IsStoredInRange empty);
  statics = All-nil (λ (s : StoredStatic). IsInRange empty s.value);
  arrays = All-cons (λ (a : ArrayObject). All (IsInRange empty) a.elements) (library_array elements.Str (pos choices.args)) [] (All-nil (IsInRange empty)) (All-nil (λ (a : ArrayObject). All (IsInRange empty) a.elements));
}
  where
    empty : HeapContents
    empty = record { objects = []; fields = [] }
