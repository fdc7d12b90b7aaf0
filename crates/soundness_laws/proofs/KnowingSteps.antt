-- What frames know of their arguments they know after each step of the machine, too.
use Rattle.std.proofs.Common.{◌≡◌, inl, inr, ℕ, true, false, true≢false, Option, Some, List, [], ◌∷◌, length, slice_get, refl, sym, ap, ◌∙◌, subst}
use Rattle.program_model.specs.declared.kinds.ClassId.{ClassId}
use Rattle.program_model.specs.declared.kinds.MethodId.{MethodId}
use Rattle.program_model.specs.declared.program.Program.{Program}
use Rattle.program_model.specs.Lookups.{method_at}
use Rattle.rlc_base.specs.declared.place.Pos.{Pos}
use Rattle.java_control.specs.Control.{Step}
use Rattle.control_actions.specs.declared.action.Action.{Action}
use Rattle.control_actions.specs.declared.action.Action.TheVariants as actions
use Rattle.control_actions.specs.declared.action.Completion.{Completion}
use Rattle.control_actions.specs.declared.action.Edge.{Edge}
use Rattle.control_actions.specs.declared.action.Edge.TheVariants as edges
use Rattle.ownership_rules.specs.Callees.{callee, may_be_null_target}
use Rattle.stub_conduct.specs.declared.choice.Conduct.{Conduct}
use Rattle.ledger_state.specs.Heaps.{next_number}
use Rattle.ledger_state.specs.declared.locals.Locals.{Locals}
use Rattle.ledger_state.specs.declared.value.Value.{Value}
use Rattle.ledger_steps.specs.CallSteps.{self_begun}
use Rattle.ledger_steps.specs.Conducts.{arguments_shared, conduct_value, positions}
use Rattle.ledger_steps.specs.Ends.{answered, exception_class, result_value, thrown_in}
use Rattle.ledger_steps.specs.InnerSteps.{thrown_value}
use Rattle.ledger_steps.specs.LedgerCallsCalls.{argument_values}
use Rattle.content_laws.specs.Accept.{Accept}
use Rattle.content_laws.specs.Agreement.{Agree, AllStand, HasMadeClasses, IsCalledFrom, IsStacked, Stands}
use Rattle.content_laws.specs.Aliases.{gives_alias}
use Rattle.content_laws.specs.Arguments.{AreGiven, HaveArguments}
use Rattle.content_laws.specs.Choosing.{frame_steps}
use Rattle.content_laws.specs.Configuration.{Config, Frame}
use Rattle.content_laws.specs.Frames.{HaveTargets, frame_after}
use Rattle.content_laws.specs.LedgerRunsOutcomes.{ended, stray, went}
use Rattle.content_laws.specs.LedgerRunsSteps.{began, end, library_went, main_ended, moved, moved_by, returned, returned_by, step, top_move, within}
use Rattle.content_laws.specs.Moves.{Back, End, Inner, Library, Move, NoWay, Rest, Return, Start, Stray, StrayBack, return_move}
use Rattle.content_laws.specs.Nexts.{IsBack, IsConstantRead, IsInnerStep, IsLibraryMove, IsNext}
use Rattle.content_laws.specs.Operations.{made_value, next_choice}
use Rattle.content_laws.specs.Outcomes.{IsCallRow}
use Rattle.content_laws.specs.Paths.{move_of}
use Rattle.content_laws.specs.PlacePlaces.{IsWay}
use Rattle.content_laws.specs.PlainForms.{HasPlainForms}
use Rattle.content_laws.specs.Running.{HasPlainRuns}
use Rattle.content_laws.specs.Steps.{IsTrueTest}
use Rattle.content_laws.specs.Throws.{EndsByException, TopEndsByException}
use Rattle.content_laws.proofs.AliasRoots.{gives_operand}
use Rattle.content_laws.proofs.Cases.{next_is}
use Rattle.content_laws.proofs.ArgumentBegun.{started}
use Rattle.content_laws.proofs.Ready.{named_gives_none, plain_step, row_gives_none, step_there}
use Rattle.content_laws.proofs.Returns.{back_is}
use Rattle.content_laws.proofs.Unmet.{way_of_call}
use Rattle.soundness_laws.specs.Knowing.{AllKnowArguments, KnowsArguments}
use Rattle.soundness_laws.proofs.KnowingCalls.{end_gives_object, library_gives_object, read_row}
use Rattle.soundness_laws.proofs.KnowingFrames.{IsGoing, knows_on}
use Rattle.soundness_laws.proofs.KnowingStarts.{knows_begun}

-- ---- steps of calls, and reads of constants, are no tests

call_test : (l : Locals) (a : Action) (e : Edge) → IsCallRow a → IsTrueTest l a e
call_test l actions.Skip e row = tt
call_test l (actions.Test d) e row = absurd row
call_test l a e row = tt

read_test : (l : Locals) (a : Action) (e : Edge) → IsConstantRead a → IsTrueTest l a e
read_test l actions.Skip e read = tt
read_test l (actions.Test d) e read = absurd read
read_test l a e read = tt

read_way : (a : Action) (e : Edge) → IsConstantRead a → IsWay a e
read_way actions.Skip e read = tt
read_way (actions.Put f d this) e read = absurd read
read_way a e read = tt

-- a target that is null throws
null_throws : (p : Program) (a : Action) (e : Edge) → may_be_null_target p a e ≡ true → e ≡ edges.Go → ⊥
null_throws p a e null go = true≢false (sym null ∙ ap (may_be_null_target p a) go)

module _ (p : Program) (ac : Accept p) (forms : HasPlainForms p) (runs' : HasPlainRuns p) where
  same_went : (c d : Config) → went c ≡ went d → c ≡ d
  same_went c d is = cc

  carried : (c d : Config) → went c ≡ went d → AllKnowArguments p c.frames → AllKnowArguments p d.frames
  carried c d is know = subst (λ (x : Config). AllKnowArguments p x.frames) (same_went c d is) know

  -- ---- a step within a frame

  inner_knows : (c : Config) (fr : Frame) → Stands p fr → KnowsArguments p fr → (e : Option ClassId) (s : Step) (i : ℕ) → slice_get (frame_steps p fr) i ≡ Some s → IsInnerStep p c.heap c.arrays fr.method fr.locals e s → (v : Value)
      → KnowsArguments p (frame_after p c.heap fr s v)
  inner_knows c fr st knows e s i here (inl plain) v =
      knows_on p ac forms c.heap fr st i s here v (inr (inl plain.row)) plain.way plain.test knows (λ held hold gives. absurd (true≢false (sym gives ∙ row_gives_none p s.action s.edge held plain.row)))
  inner_knows c fr st knows e s i here (inr (inl null)) v =
      knows_on p ac forms c.heap fr st i s here v (inl null.row) (way_of_call s null.row) (call_test fr.locals s.action s.edge null.row) knows (λ held hold gives. absurd (null_throws p s.action s.edge null.target
      (gives_operand p s.action s.edge held (callee p s.action) ((ac.fits st.number).steps i (move_of s) st.control (step_there p fr st i s here)) refl gives).1))
  inner_knows c fr st knows e s i here (inr (inr store)) v =
      knows_on p ac forms c.heap fr st i s here v (inr (inr (store.field, store.temp, store.action))) (subst (λ (a : Action). IsWay a s.edge) (sym store.action) tt) (subst (λ (a : Action). IsTrueTest fr.locals a s.edge) (sym store.action) tt) knows
      (λ held hold gives. absurd (true≢false (sym gives ∙ ap (λ (a : Action). gives_alias p a s.edge held) store.action ∙ named_gives_none p (actions.PutOwn store.field store.temp) s.edge held refl)))

  -- ---- a call of the library

  library_knows : (c : Config) (fr : Frame) → Stands p fr → KnowsArguments p fr → (named m : MethodId) (x : Conduct) (s : Step) → IsLibraryMove p c.heap c.arrays fr.locals (frame_steps p fr) named m x s → (count : ℕ)
      → KnowsArguments p (frame_after p c.heap fr s (conduct_value count (method_at p m) (positions fr.locals s.action (next_number c.heap) x) (next_number c.heap) x))
  library_knows c fr st knows named m x s next count =
      knows_on p ac forms c.heap fr st next.index s next.here (conduct_value count (method_at p m) (positions fr.locals s.action (next_number c.heap) x) (next_number c.heap) x) going way test knows
      (λ held hold gives. library_gives_object p ac c.heap c.arrays fr.locals (frame_steps p fr) named m x s next ((ac.fits st.number).steps next.index (move_of s) st.control (step_there p fr st next.index s next.here))
      (plain_step p ac forms fr st next.index s next.here) count (next_number c.heap) held hold gives)
    where
      going : IsGoing s.action
      going = elim next.row [ inl call ↦ inl call.0 | inr read ↦ inr (inl (read_row s.action read)) ]

      way : IsWay s.action s.edge
      way = elim next.row [ inl call ↦ way_of_call s call.0 | inr read ↦ read_way s.action s.edge read ]

      test : IsTrueTest fr.locals s.action s.edge
      test = elim next.row [ inl call ↦ call_test fr.locals s.action s.edge call.0 | inr read ↦ read_test fr.locals s.action s.edge read ]

  module _ (c d : Config) (fr : Frame) (st : Stands p fr) (knows : KnowsArguments p fr) (exits : EndsByException p c.heap fr) (all : AllKnowArguments p c.frames) where
    abbrev e : Completion → Option ClassId
    e q = exception_class p c.heap (thrown_in fr.locals q)

    -- ---- the end of a call

    module _ (q : Completion) (i : ℕ) (s : Step) (here : slice_get (frame_steps p fr) i ≡ Some s) (is : s.action ≡ actions.End q) (caller : Frame) (below : List Frame) (waits : IsCalledFrom p c.heap fr (caller ∷ below))
        (stands : AllStand p (caller ∷ below)) (given : AreGiven p fr (caller ∷ below)) (more : AllKnowArguments p (caller ∷ below)) where
      returned_knows : (pos : Pos) (r : Return) → IsBack p (frame_steps p caller) (e q) waits.0.named r → returned_by p c fr caller below pos q r ≡ went d → AllKnowArguments p d.frames
      returned_knows pos (Back x named t) back same =
          carried (returned p c fr caller below pos q x named t) d same (
            subst (λ (y : Option ClassId). KnowsArguments p (frame_after p c.heap caller t (answered fr.locals.this t.action (result_value fr.locals (method_at p fr.method) q) y))) (sym back.0)
                (knows_on p ac forms c.heap caller stands.0 back.2.index t back.2.here (answered fr.locals.this t.action (result_value fr.locals (method_at p fr.method) q) (e q)) (inl back.2.row) (way_of_call t back.2.row)
                (call_test caller.locals t.action t.edge back.2.row) more.0
                (λ held hold gives. end_gives_object p ac forms runs' c.heap fr caller st stands.0 waits.0 given.0 exits knows i s q here is t waits.0.named back.2 held hold gives)),
            more.1,
          )
      returned_knows pos (StrayBack x at) back same = absurd (let never : stray x at ≡ went d = same in cc)
      returned_knows pos NoWay back same = carried c d same all

    end_knows : (q : Completion) (i : ℕ) (s : Step) → slice_get (frame_steps p fr) i ≡ Some s → s.action ≡ actions.End q → (pos : Pos) (frs : List Frame) → IsCalledFrom p c.heap fr frs → AllStand p frs → AreGiven p fr frs → AllKnowArguments p frs
        → end p c fr frs pos q ≡ went d → AllKnowArguments p d.frames
    end_knows q i s here is pos [] waits stands given more same = carried (main_ended p c fr pos q) d same tt
    end_knows q i s here is pos (caller ∷ below) waits stands given more same =
        returned_knows q i s here is caller below waits stands given more pos (return_move p (frame_steps p caller) (e q))
        (back_is p caller stands.0 waits.0.named waits.0.index waits.0.step waits.0.here waits.0.calls (e q)) same

    -- ---- all moves

    module _ (frs : List Frame) (waits : IsCalledFrom p c.heap fr frs) (stands : AllStand p frs) (given : AreGiven p fr frs) (more : AllKnowArguments p frs) where
      moved_knows : (mv : Move) → IsNext p c.heap c.arrays fr.method fr.locals (frame_steps p fr) mv → moved p c fr frs mv ≡ went d → AllKnowArguments p d.frames
      moved_knows (Inner x s) next same =
          carried (within p c fr frs x s) d same
          (inner_knows c fr st knows x s next.0 next.1 next.2 (thrown_value c.heap x (made_value p c.heap c.arrays c.statics (next_choice c.choices c.used) fr.locals s.action)), more)
      moved_knows (Start named runs a pos) next same =
          carried (began p c fr frs named runs a pos) d same (
            knows_begun p ac _ runs next.running (self_begun fr.locals a c.heap) (argument_values fr.locals a (method_at p named)) (started p ac c.heap c.arrays fr st named runs a next),
            (knows, more),
          )
      moved_knows (Library named m x s) next same =
          carried (library_went p c fr frs named m x s) d same (library_knows c fr st knows named m x s next (length (arguments_shared c.arrays fr.locals s.action (method_at p named))), more)
      moved_knows (End pos q) next same = end_knows q next.0 next.1 next.2 next.3 pos frs waits stands given more same
      moved_knows (Stray x pos) next same = absurd (let never : stray x pos ≡ went d = same in cc)
      moved_knows Rest next same = carried c d same all

  by_frames : (c d : Config) (frs : List Frame) → AllStand p frs → IsStacked p c.heap frs → HasMadeClasses p c.heap → HaveTargets p frs → HaveArguments p frs → TopEndsByException p c.heap frs → AllKnowArguments p frs → AllKnowArguments p c.frames
      → moved_by p c frs (top_move p c frs) ≡ went d → AllKnowArguments p d.frames
  by_frames c d [] standing stacked classes targets given exits knows all same = absurd (let never : ended c.ended ≡ went d = same in cc)
  by_frames c d (fr ∷ frs) standing stacked classes targets given exits knows all same =
      moved_knows c d fr standing.0 knows.0 exits all frs stacked standing.1 given knows.1 (top_move p c (fr ∷ frs)) (next_is p ac forms c.heap c.arrays (next_choice c.choices c.used) fr standing.0 targets.0 classes) same

  pub known_step : (c d : Config) → Agree p c → HaveTargets p c.frames → HaveArguments p c.frames → TopEndsByException p c.heap c.frames → AllKnowArguments p c.frames → step p c ≡ went d → AllKnowArguments p d.frames
  unfolding step
  known_step c d agrees targets given exits knows same = by_frames c d c.frames agrees.standing agrees.stacked agrees.classes targets given exits knows knows same
