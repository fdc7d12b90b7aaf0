-- Each frame with a `this` runs on an object: a text or an array runs no method of the program, since their classes are the library's.
use Rattle.std.proofs.Common.{◌≡◌, inl, inr, ℕ, true, false, true≢false, Option, Some, None, List, [], ◌∷◌, refl, sym, ap, ◌∙◌, subst}
use Rattle.program_model.specs.declared.kinds.ClassId.{ClassId}
use Rattle.program_model.specs.declared.kinds.MethodId.{MethodId}
use Rattle.program_model.specs.declared.kinds.MethodKind.TheVariants as methods
use Rattle.program_model.specs.declared.program.Method.{Method}
use Rattle.program_model.specs.declared.program.Program.{Program}
use Rattle.program_model.specs.Lookups.{method_at}
use Rattle.program_model.specs.Overrides.{is_library}
use Rattle.program_model.specs.SuperTests.{is_under}
use Rattle.rlc_base.specs.declared.place.Pos.{Pos}
use Rattle.java_control.specs.Calls.{called_method}
use Rattle.control_actions.specs.declared.action.Action.{Action}
use Rattle.control_actions.specs.declared.action.Action.TheVariants as actions
use Rattle.control_actions.specs.declared.action.Completion.{Completion}
use Rattle.control_actions.specs.declared.action.TargetForm.TheVariants as forms
use Rattle.ownership_rules.specs.SmallActions.{IsSmallAction}
use Rattle.stub_conduct.specs.declared.choice.Choices.{Choices}
use Rattle.ledger_state.specs.Contents.{HeapContents}
use Rattle.ledger_state.specs.Classes.{runtime_class}
use Rattle.ledger_state.specs.Heaps.{next_number}
use Rattle.ledger_state.specs.Values.{is_null}
use Rattle.ledger_state.specs.declared.array.ArrayObject.{ArrayObject}
use Rattle.ledger_state.specs.declared.value.Value.{Value}
use Rattle.ledger_state.specs.declared.value.Value.TheVariants as values
use Rattle.ledger_steps.specs.LedgerCallsCalls.{argument_values, form_of, has_null_target, operand_of, overriding, overriding_by, overriding_in, running}
use Rattle.ledger_steps.specs.CallSteps.{self_begun}
use Rattle.ledger_steps.specs.Ends.{exception_class, thrown_in}
use Rattle.content_laws.specs.Accept.{Accept}
use Rattle.content_laws.specs.Agreement.{AllStand, HasMadeClasses}
use Rattle.content_laws.specs.Outcomes.{IsCallRow}
use Rattle.content_laws.specs.Choosing.{frame_steps}
use Rattle.content_laws.specs.Configuration.{Config, Frame}
use Rattle.content_laws.specs.Frames.{HaveTargets, KeepsTargets, holds_this}
use Rattle.content_laws.specs.LedgerRunsOutcomes.{ended, stray, went}
use Rattle.content_laws.specs.LedgerRunsSteps.{began, end, library_went, main_ended, moved, moved_by, returned, returned_by, step, top_move, within}
use Rattle.content_laws.specs.LibraryClasses.{GivesLibraryClasses}
use Rattle.content_laws.specs.Moves.{Back, End, Inner, Library, Move, NoWay, Rest, Return, Start, Stray, StrayBack, fits_target, has_body, is_target_of, return_move}
use Rattle.content_laws.specs.Nexts.{IsNext, IsStartMove}
use Rattle.content_laws.specs.Operations.{next_choice}
use Rattle.content_laws.specs.PlainForms.{HasPlainForms}
use Rattle.content_laws.specs.Sight.{IsOnObject, RunOnObjects}
use Rattle.content_laws.specs.Starts.{start_config}
use Rattle.content_laws.specs.StepTargets.{FindsIt, HasThis, IsStatic, RunsOnThis}
use Rattle.content_laws.proofs.Bodies.{body_is_of_program}
use Rattle.content_laws.proofs.Cases.{next_is}
use Rattle.content_laws.proofs.ContentFrames.{begun_method, begun_this}
use Rattle.content_laws.proofs.Made.{runs_above}
use Rattle.content_laws.proofs.TargetBegun.{finds, small}
use Rattle.content_laws.proofs.ThisOperands.{first_value}

no_this : (x : Option Method) → IsStatic x → HasThis x → ⊥
no_this None is has = has
no_this (Some x) is (inl instance) = let never : methods.Static ≡ methods.Instance = sym is ∙ instance in cc
no_this (Some x) is (inr constructor) = let never : methods.Static ≡ methods.Ctor = sym is ∙ constructor in cc

module _ (p : Program) (ac : Accept p) (forms' : HasPlainForms p) (gives : GivesLibraryClasses p) where
  -- a method of the program is declared by no class above one of the library
  none_above : (c : ClassId) → is_library p c ≡ true → (r : MethodId) (x : Method) → method_at p r ≡ Some x → has_body x.body ≡ true → is_under p c x.class ≡ true → ⊥
  none_above c lib r x at body under = true≢false (sym (forms'.library c x.class under lib) ∙ body_is_of_program p ac r x at body)

  module _ (h : HeapContents) (arrays : List ArrayObject) (fr : Frame) (targets : KeepsTargets p fr) (on : IsOnObject p fr) (named runs : MethodId) (a : Action)
      (next : IsStartMove p h arrays fr.locals (frame_steps p fr) named runs a) where
    abbrev IsOn : Action → Type 0
    IsOn b = (w : ℕ) × (self_begun fr.locals b h ≡ values.Object w)

    found : FindsIt p targets.body a (holds_this fr.locals)
    found = subst (λ (b : Action). FindsIt p targets.body b (holds_this fr.locals)) next.same (finds p ac fr targets next.index next.step next.here)

    low : IsSmallAction p a
    low = subst (IsSmallAction p) next.same (small p ac fr targets next.index next.step next.here)

    -- the frame itself does
    mine : RunsOnThis p targets.body → (w : ℕ) × (fr.locals.this ≡ values.Object w)
    mine has = on (subst HasThis (ap (method_at p) targets.method) has)

    -- a call on the class of a text or an array runs none of the program's
    by_class : (c : ClassId) → is_library p c ≡ true → is_under p c next.method.class ≡ true → runs ≡ overriding_by p named (Some c) → ⊥
    by_class c lib under selected = elim (runs_above p ac.well_formed.valid.typed named next.method c next.running there) [
      | inl same ↦ none_above c lib runs next.running next.running_at next.body (ap (λ (m : Method). is_under p c m.class) (named_one same) ∙ under)
      | inr above ↦ none_above c lib runs next.running next.running_at next.body above
    ]
      where
        chosen : runs ≡ overriding p named next.method c
        chosen = selected ∙ ap (λ (m : Option Method). overriding_in p named m c) next.named_at

        there : method_at p (overriding p named next.method c) ≡ Some next.running
        there = sym (ap (method_at p) chosen) ∙ next.running_at

        named_one : overriding p named next.method c ≡ named → next.running ≡ next.method
        named_one same = let both : Some next.running ≡ Some next.method = sym there ∙ ap (method_at p) same ∙ next.named_at in cc

    by_value : (m : MethodId) (d n : ℕ) → a ≡ actions.Call m d n forms.Other → (v : Value) → operand_of fr.locals (actions.Call m d n forms.Other) 0 ≡ v → (w : ℕ) × (operand_of fr.locals (actions.Call m d n forms.Other) 0 ≡ values.Object w)
    by_value m d n is v value = go v value
      where
        null : is_null (operand_of fr.locals (actions.Call m d n forms.Other) 0) ≡ false
        null = subst (λ (b : Action). has_null_target fr.locals b ≡ false) is next.target

        fits : is_target_of p h arrays (Some next.method) (operand_of fr.locals (actions.Call m d n forms.Other) 0) ≡ true
        fits = subst (λ (x : Option Method). is_target_of p h arrays x (operand_of fr.locals (actions.Call m d n forms.Other) 0) ≡ true) next.named_at
            (subst (λ (b : Action). fits_target p h arrays (method_at p named) (form_of b) (operand_of fr.locals b 0) ≡ true) is next.fits)

        selected : runs ≡ overriding_by p named (runtime_class p h (operand_of fr.locals (actions.Call m d n forms.Other) 0))
        selected = subst (λ (b : Action). runs ≡ running p h fr.locals b named) is next.selected

        go : (u : Value) → operand_of fr.locals (actions.Call m d n forms.Other) 0 ≡ u → (w : ℕ) × (operand_of fr.locals (actions.Call m d n forms.Other) 0 ≡ values.Object w)
        go (values.Object k) is' = (k, is')
        go values.Nothing is' = absurd (true≢false (sym (ap is_null is') ∙ null))
        go values.Null is' = absurd (true≢false (sym (ap is_null is') ∙ null))
        go (values.Number z) is' = absurd (true≢false (sym fits ∙ ap (is_target_of p h arrays (Some next.method)) is'))
        go values.Text is' = absurd (by_class p.core.string gives.string (sym (ap (is_target_of p h arrays (Some next.method)) is') ∙ fits) (selected ∙ ap (λ (u : Value). overriding_by p named (runtime_class p h u)) is'))
        go (values.Array k) is' = absurd (by_class p.core.object gives.object (sym (ap (is_target_of p h arrays (Some next.method)) is') ∙ fits) (selected ∙ ap (λ (u : Value). overriding_by p named (runtime_class p h u)) is'))

    -- so does the one that it calls
    callee_on : HasThis (method_at p runs) → IsOn a
    callee_on has = go a refl
      where
        same_named : (m : MethodId) → ◌≡◌ {A = Option MethodId} (Some m) (Some named) → m ≡ named
        same_named m is = cc

        go : (b : Action) → a ≡ b → IsOn b
        go (actions.New m d n) is = (next_number h, refl)
        go (actions.Super m d n) is =
            let it : FindsIt p targets.body (actions.Super m d n) (holds_this fr.locals) = subst (λ (b : Action). FindsIt p targets.body b (holds_this fr.locals)) is found in
            let few : IsSmallAction p (actions.Super m d n) = subst (IsSmallAction p) is low in
            let object = mine it.1 in (object.0, first_value fr.locals d n it.2 few.0 ∙ it.0 few.0 ∙ object.1)
        go (actions.Call m d n forms.This) is =
            let it : FindsIt p targets.body (actions.Call m d n forms.This) (holds_this fr.locals) = subst (λ (b : Action). FindsIt p targets.body b (holds_this fr.locals)) is found in
            let few : IsSmallAction p (actions.Call m d n forms.This) = subst (IsSmallAction p) is low in
            let object = mine it.1 in (object.0, first_value fr.locals d n it.2 few.0 ∙ it.0 few.0 ∙ object.1)
        go (actions.Call m d n forms.Super) is =
            let it : FindsIt p targets.body (actions.Call m d n forms.Super) (holds_this fr.locals) = subst (λ (b : Action). FindsIt p targets.body b (holds_this fr.locals)) is found in
            let few : IsSmallAction p (actions.Call m d n forms.Super) = subst (IsSmallAction p) is low in
            let object = mine it.1 in (object.0, first_value fr.locals d n it.2 few.0 ∙ it.0 few.0 ∙ object.1)
        go (actions.Call m d n forms.Static) is =
            let it : IsStatic (method_at p m) = subst (λ (b : Action). FindsIt p targets.body b (holds_this fr.locals)) is found in
            let one : m ≡ named = same_named m (ap called_method (sym is) ∙ next.calls) in
            let runs_named : runs ≡ named = subst (λ (b : Action). runs ≡ running p h fr.locals b named) is next.selected in
            absurd (no_this (method_at p runs) (subst (λ (k : MethodId). IsStatic (method_at p k)) (one ∙ sym runs_named) it) has)
        go (actions.Call m d n forms.Other) is = by_value m d n is (operand_of fr.locals (actions.Call m d n forms.Other) 0) refl
        go b is = absurd (subst IsCallRow is next.row)

  same_went : (c d : Config) → went c ≡ went d → c ≡ d
  same_went c d is = cc

  carried : (c d : Config) → went c ≡ went d → RunOnObjects p c.frames → RunOnObjects p d.frames
  carried c d is on = subst (λ (x : Config). RunOnObjects p x.frames) (same_went c d is) on

  module _ (c d : Config) (fr : Frame) (frs : List Frame) (targets : KeepsTargets p fr) (on : IsOnObject p fr) (rest : RunOnObjects p frs) (all : RunOnObjects p c.frames) where
    returned_on : (caller : Frame) (below : List Frame) (pos : Pos) (q : Completion) (r : Return) → IsOnObject p caller → RunOnObjects p below → returned_by p c fr caller below pos q r ≡ went d → RunOnObjects p d.frames
    returned_on caller below pos q (Back e named t) waits more same = carried (returned p c fr caller below pos q e named t) d same (waits, more)
    returned_on caller below pos q (StrayBack e at) waits more same = absurd (let never : stray e at ≡ went d = same in cc)
    returned_on caller below pos q NoWay waits more same = carried c d same all

    end_on : (frs : List Frame) (pos : Pos) (q : Completion) → RunOnObjects p frs → end p c fr frs pos q ≡ went d → RunOnObjects p d.frames
    end_on [] pos q more same = carried (main_ended p c fr pos q) d same tt
    end_on (caller ∷ below) pos q more same = returned_on caller below pos q (return_move p (frame_steps p caller) (exception_class p c.heap (thrown_in fr.locals q))) more.0 more.1 same

    moved_on : (mv : Move) → IsNext p c.heap c.arrays fr.method fr.locals (frame_steps p fr) mv → moved p c fr frs mv ≡ went d → RunOnObjects p d.frames
    moved_on (Inner e s) next same = carried (within p c fr frs e s) d same (on, rest)
    moved_on (Start named runs a pos) next same = carried (began p c fr frs named runs a pos) d same (
      (λ has. (let object = callee_on c.heap c.arrays fr targets on named runs a next (subst (λ (k : MethodId). HasThis (method_at p k)) (begun_method p runs (self_begun fr.locals a c.heap) (argument_values fr.locals a (method_at p named))) has) in
          (object.0, begun_this p runs (self_begun fr.locals a c.heap) (argument_values fr.locals a (method_at p named)) ∙ object.1))),
      (on, rest),
    )
    moved_on (Library named m x s) next same = carried (library_went p c fr frs named m x s) d same (on, rest)
    moved_on (End pos q) next same = end_on frs pos q rest same
    moved_on (Stray e pos) next same = absurd (let never : stray e pos ≡ went d = same in cc)
    moved_on Rest next same = carried c d same all

  by_frames : (c d : Config) (frs : List Frame) → AllStand p frs → HasMadeClasses p c.heap → HaveTargets p frs → RunOnObjects p c.frames → RunOnObjects p frs → moved_by p c frs (top_move p c frs) ≡ went d → RunOnObjects p d.frames
  by_frames c d [] standing classes targets all on same = absurd (let never : ended c.ended ≡ went d = same in cc)
  by_frames c d (fr ∷ frs) standing classes targets all on same =
      moved_on c d fr frs targets.0 on.0 on.1 all (top_move p c (fr ∷ frs)) (next_is p ac forms' c.heap c.arrays (next_choice c.choices c.used) fr standing.0 targets.0 classes) same

  pub objects_step : (c d : Config) → AllStand p c.frames → HasMadeClasses p c.heap → HaveTargets p c.frames → RunOnObjects p c.frames → step p c ≡ went d → RunOnObjects p d.frames
  unfolding step
  objects_step c d standing classes targets on same = by_frames c d c.frames standing classes targets on on same

pub objects_at_start : (p : Program) (main : MethodId) (m : Method) (choices : Choices) → method_at p main ≡ Some m → m.kind ≡ methods.Static → RunOnObjects p (start_config p main choices).frames
unfolding start_config
objects_at_start p main m choices at static = (
  (λ has. absurd (no_this (method_at p main) (subst (λ (x : Option Method). IsStatic x) (sym at) static)
      (subst (λ (k : MethodId). HasThis (method_at p k)) (begun_method p main values.Nothing (values.Array 0 ∷ [])) has))),
  tt,
)
