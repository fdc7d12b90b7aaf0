-- Each step of the machine leaves objects of a class or null alone where the type of a place is under the class.
use Rattle.std.proofs.Common.{◌≡◌, ◌⊎◌, inl, inr, ℕ, suc, ◌+◌, ◌<◌, true, false, true≢false, Option, Some, None, List, [], ◌∷◌, All, length, map, slice_get, refl, sym, ap, ◌∙◌, subst, arith}
use Rattle.std.specs.List.{range_with_len}
use Rattle.std.proofs.lemmas.Bool.{cases_lt}
use Rattle.std.proofs.lemmas.List.Elements.{All-nil}
use Rattle.std.proofs.lemmas.List.FromFn.{get_or-map-range_with_len, length-map-range_with_len}
use Rattle.std.proofs.lemmas.Option.{slice_get-get_or, slice_get_past}
use Rattle.rlc_base.specs.declared.place.Pos.{Pos}
use Rattle.program_model.specs.declared.kinds.ClassId.{ClassId}
use Rattle.program_model.specs.declared.kinds.MethodId.{MethodId}
use Rattle.program_model.specs.declared.program.Method.{Method}
use Rattle.program_model.specs.declared.program.Program.{Program}
use Rattle.program_model.specs.Hierarchy.{itself}
use Rattle.program_model.specs.Lookups.{method_at}
use Rattle.program_model.specs.Validity.{IsTypedProgram}
use Rattle.program_model.proofs.HierarchyLaws.{is_under_law}
use Rattle.ledger_steps.specs.Bodies.{constructs, is_constructor_kind}
use Rattle.java_control.specs.Calls.{called_method}
use Rattle.java_control.specs.Control.{Step, next_of}
use Rattle.java_control.specs.Sources.{is_throws}
use Rattle.control_actions.specs.declared.action.Action.{Action}
use Rattle.control_actions.specs.declared.action.Action.TheVariants as actions
use Rattle.control_actions.specs.declared.action.Completion.{Completion}
use Rattle.control_actions.specs.declared.action.Completion.TheVariants as completions
use Rattle.control_actions.specs.declared.action.Edge.{Edge}
use Rattle.control_actions.specs.declared.action.Edge.TheVariants as edges
use Rattle.dispatch_laws.specs.Accept.{Accept}
use Rattle.frame_laws.specs.Paths.{move_of}
use Rattle.stub_conduct.specs.declared.choice.Choices.{Choices}
use Rattle.stub_conduct.specs.declared.choice.Conduct.{Conduct}
use Rattle.stub_conduct.specs.declared.choice.Conduct.TheVariants as conducts
use Rattle.ledger_state.specs.Contents.{HeapContents}
use Rattle.ledger_state.specs.Heaps.{next_number}
use Rattle.ledger_state.specs.Locals.{temp_value}
use Rattle.ledger_state.specs.Values.{value_or_nothing}
use Rattle.ledger_state.specs.declared.array.ArrayObject.{ArrayObject}
use Rattle.ledger_state.specs.declared.value.Value.{Value}
use Rattle.ledger_state.specs.declared.value.Value.TheVariants as values
use Rattle.ledger_moves.specs.Operations.{made_value, next_choice}
use Rattle.ledger_steps.specs.LedgerCallsCalls.{argument_values, begun, body_of, form_of, operand_of, params_in}
use Rattle.ledger_steps.specs.Conducts.{arguments_shared, conduct_value, made_by_new, positions}
use Rattle.ledger_moves.specs.Configuration.{Config, Frame, held_by}
use Rattle.ledger_moves.specs.Choosing.{body_by, frame_steps, method_body}
use Rattle.ledger_moves.specs.LedgerFramesFrames.{frame_after}
use Rattle.ledger_steps.specs.CallSteps.{library_done, self_begun, started}
use Rattle.ledger_steps.specs.Ends.{answered, answered_normally, exception_class, result_value, thrown_in}
use Rattle.ledger_steps.specs.InnerSteps.{thrown_value}
use Rattle.ledger_moves.specs.Moves.{Move, Inner, Start, Library, End, Stray, Rest, fits_target, has_body, next_move, standing}
use Rattle.ledger_moves.specs.Moves.{Return, Back, StrayBack, NoWay, return_move}
use Rattle.frame_laws.specs.LedgerRunsOutcomes.{went, ended, stray}
use Rattle.frame_laws.specs.Starts.{start_config}
use Rattle.frame_laws.specs.LedgerRunsSteps.{began, end, library_went, main_ended, moved, moved_by, returned, returned_by, step, top_move, within}
use Rattle.frame_laws.specs.Agreement.{Agree, AllStand, HasMadeClasses, IsCalledFrom, IsStacked, RunsItself, WaitsFor}
use Rattle.dispatch_laws.specs.PlainForms.{HasPlainForms, IsAnsweredBy, IsPlainAction}
use Rattle.frame_laws.proofs.LibraryRuns.{constructor_itself}
use Rattle.frame_laws.specs.Outcomes.{IsCallRow}
use Rattle.frame_laws.specs.Frames.{HaveTargets}
use Rattle.frame_laws.proofs.CallWays.{one_action}
use Rattle.frame_laws.proofs.Unmet.{call_may}
use Rattle.frame_laws.specs.Naming.{IsOfItsKind}
use Rattle.frame_laws.proofs.NamedReached.{names_what_is_there}
use Rattle.frame_laws.specs.Nexts.{IsBack, IsBackStep, IsInnerStep, IsNext, IsStartMove}
use Rattle.frame_laws.proofs.Cases.{next_is}
use Rattle.frame_laws.proofs.Returns.{back_is}
use Rattle.dispatch_laws.specs.ClassOperands.{params_of, result_of}
use Rattle.dispatch_laws.specs.ClassOperands.{Fits, IsNotAboveString, OfClass, Returns, own_type}
use Rattle.value_laws.proofs.ValueTypeFields.{library_fields, returned_fields, started_fields}
use Rattle.value_laws.proofs.Moved.{IsLibraryNext}
use Rattle.value_laws.proofs.Moved as ways
use Rattle.value_laws.specs.Objects.{KeepsClasses, object_class}
use Rattle.value_laws.specs.Values.{FitsClass, temp_fits_class}
use Rattle.value_laws.specs.Origins.{IsCastToClass, MakesClass}
use Rattle.value_laws.specs.ClassValues.{FrameFitsClass, FramesFitClass, HasClassResults, HaveClass, HaveClasses, KeepsResultClasses, StoredFieldFitsClass, StoredFieldsFitClass}
use Rattle.value_laws.specs.Exceptions.{EndsByException, RaisesException, TopEndsByException, TopRaisesException}
use Rattle.value_laws.proofs.ClassBegun.{ArgumentsFitClass, BeginsWithClass, all_still, arguments_fill, array_fills, begun_keeps, fits, frame_keeps, keeps_still, same_steps, step_there, stored_still}
use Rattle.dispatch_laws.proofs.Results.{class_result}
use Rattle.value_laws.proofs.ClassFields.{inner_fits}
use Rattle.value_laws.proofs.ClassGifts.{IsMaking, fits_still, library_value_fits, made_result}
use Rattle.value_laws.proofs.ObjectClasses.{begun_class, fresh_class, inner_keeps, library_keeps, main_keeps, returned_keeps, started_keeps}
use Rattle.value_laws.proofs.Made.{calls_no_cast, call_sets_nothing, inner_cast, inner_normal, inner_sets, library_sets_nothing, made_fits, names_making, self_fits}
use Rattle.value_laws.proofs.ClassOperands.{argument_fits, result_fits}

-- ---- values by number

value_of_argument : (p : Program) (bound : ClassId) (K : HeapContents) (f : ℕ → Value) (n k : ℕ) → FitsClass p bound K (f (suc k)) → FitsClass p bound K (value_or_nothing (slice_get (map f (range_with_len 1 n)) k))
value_of_argument p bound K f n k none = elim (cases_lt k n) [
  | inl inside ↦ (let all : List Value = map f (range_with_len 1 n) in
      let long : length all ≡ n = length-map-range_with_len f 1 n in
      let there : k < length all = omega (arith, inside, long) in
      subst (FitsClass p bound K) (sym (ap value_or_nothing (slice_get-get_or all k values.Nothing there) ∙ get_or-map-range_with_len f 1 n k (suc k) values.Nothing inside (omega arith))) none)
  | inr past ↦ (let all : List Value = map f (range_with_len 1 n) in
      let long : length all ≡ n = length-map-range_with_len f 1 n in
      subst (FitsClass p bound K) (sym (ap value_or_nothing (slice_get_past all k (omega (arith, past, long))))) tt)
]

same_params : (m : Option Method) (x : Method) → m ≡ Some x → length (params_in m) ≡ length x.sig.params.items
same_params m x at = ap (λ (o : Option Method). length (params_in o)) at

-- the fields are those that were, and so are their objects
same_fields : (p : Program) (bound : ClassId) (h k : HeapContents) → k.fields ≡ h.fields → KeepsClasses h k → StoredFieldsFitClass p bound h h → StoredFieldsFitClass p bound k k
same_fields p bound h k same keeps all = subst (All (λ s. StoredFieldFitsClass p bound k s)) (sym same) (stored_still p bound h k keeps h.fields all)

same_went : (c d : Config) → went c ≡ went d → c ≡ d
same_went c d is = cc

edge_throws : (e : Edge) (c : ClassId) → e ≡ edges.Throws c → is_throws e ≡ true
edge_throws e c is = ap is_throws is

-- ---- a step of the machine

module _ (p : Program) (bound : ClassId) (ac : Accept p) (forms : HasPlainForms p) (plain : HasClassResults p bound) where
  carried : (c d : Config) → went c ≡ went d → HaveClass p bound c → HaveClass p bound d
  carried c d is have = subst (HaveClass p bound) (same_went c d is) have

  abbrev typed : IsTypedProgram p
  typed = ac.well_formed.valid.typed

  -- the steps of a frame are of the plain forms
  plain_forms : (K : HeapContents) (fr : Frame) (keeps : FrameFitsClass p bound K fr) (i : ℕ) (s : Step) → slice_get (frame_steps p fr) i ≡ Some s → IsPlainAction p s.action
  plain_forms K fr keeps i s here = forms.steps keeps.number i (move_of s) keeps.control (step_there p bound ac plain.texts K fr keeps i s here)

  in_steps : (K : HeapContents) (fr : Frame) (keeps : FrameFitsClass p bound K fr) (i : ℕ) (s : Step) → slice_get (next_of p keeps.number fr.control) i ≡ Some s → slice_get (frame_steps p fr) i ≡ Some s
  in_steps K fr keeps i s here = ap (λ (steps : List Step). slice_get steps i) (same_steps p bound ac plain.texts K fr keeps) ∙ here

  asks_at : (K : HeapContents) (fr : Frame) (keeps : FrameFitsClass p bound K fr) (i : ℕ) (s : Step) → slice_get (frame_steps p fr) i ≡ Some s → Fits p bound keeps.body s.action (temp_fits_class p bound K fr.locals)
  asks_at K fr keeps i s here = fits p bound ac plain.texts K fr keeps i s here

  body_of_frame : (K : HeapContents) (fr : Frame) (keeps : FrameFitsClass p bound K fr) → method_body p fr.method ≡ Some keeps.body
  body_of_frame K fr keeps = ap (body_by p) keeps.id ∙ keeps.at

  module _ (c : Config) (fr : Frame) (frs : List Frame) (keeps : FrameFitsClass p bound c.heap fr) (rest : FramesFitClass p bound c.heap frs) (stored : StoredFieldsFitClass p bound c.heap c.heap) where
    module _ (e : Option ClassId) (s : Step) (i : ℕ) (here : slice_get (frame_steps p fr) i ≡ Some s) (next : IsInnerStep p c.heap c.arrays fr.method fr.locals e s) where
      abbrev then : HeapContents
      then = (within p c fr frs e s).heap

      abbrev inner_made : Value
      inner_made = made_value p c.heap c.arrays c.statics (next_choice c.choices c.used) fr.locals s.action

      inner_classes : KeepsClasses c.heap then
      inner_classes = inner_keeps p c.heap fr.method fr.locals e s.action s.pos (held_by (frame_after p c.heap fr s (thrown_value c.heap e inner_made) ∷ frs))

      now : FrameFitsClass p bound then fr
      now = keeps_still p bound c.heap then inner_classes fr keeps

      stored_now : StoredFieldsFitClass p bound then c.heap
      stored_now = stored_still p bound c.heap then inner_classes c.heap.fields stored

      inner_makes : is_throws s.edge ≡ false → MakesClass p bound s.action → FitsClass p bound then (thrown_value c.heap e inner_made)
      inner_makes goes makes =
          subst (λ (o : Option ClassId). FitsClass p bound then (thrown_value c.heap o inner_made)) (sym (inner_normal p c.heap c.arrays fr.method fr.locals e s next goes))
          (made_fits p bound then c.heap c.arrays c.statics (next_choice c.choices c.used) fr.locals s.action stored_now makes)

      inner_have : HaveClass p bound (within p c fr frs e s)
      inner_have = record {
        frames = (
          frame_keeps p bound ac plain.texts then fr now i s here c.heap (thrown_value c.heap e inner_made) stored_now
              (inner_sets p bound typed plain.texts then c.heap inner_classes now.number now.body now.at fr.method (body_of_frame then fr now) fr.locals c.arrays c.statics (next_choice c.choices c.used) e (temp_fits_class p bound then fr.locals) s
              (asks_at then fr now i s here) next)
              inner_makes (λ x goes is. fits_still p bound c.heap then (temp_value fr.locals x) inner_classes (inner_cast p bound typed c.heap c.arrays fr.method fr.locals e s x next goes is)),
          all_still p bound c.heap then inner_classes frs rest,
        );
        fields = inner_fits p bound then now.body c.heap fr.method fr.locals e s.action s.pos (held_by (frame_after p c.heap fr s (thrown_value c.heap e inner_made) ∷ frs)) stored_now (asks_at then fr now i s here);
      }

    module _ (named m : MethodId) (d : Conduct) (s : Step) (next : IsLibraryNext p c.heap c.arrays fr.locals (frame_steps p fr) named m d s) where
      abbrev gone : HeapContents
      gone = (library_went p c fr frs named m d s).heap

      abbrev shared : List ArrayObject
      shared = arguments_shared c.arrays fr.locals s.action (method_at p named)

      abbrev gift : Value
      gift = conduct_value (length (arguments_shared c.arrays fr.locals s.action (method_at p named))) (method_at p m) (positions fr.locals s.action (next_number c.heap) d) (next_number c.heap) d

      abbrev held_then : List (List Value)
      held_then = held_by (frame_after p c.heap fr s gift ∷ frs)

      library_classes : KeepsClasses c.heap gone
      library_classes = library_keeps p c.heap fr.locals s.action (method_at p named) (method_at p m) (length frs + 1) s.pos held_then d

      library_now : FrameFitsClass p bound gone fr
      library_now = keeps_still p bound c.heap gone library_classes fr keeps

      library_stored : StoredFieldsFitClass p bound gone c.heap
      library_stored = stored_still p bound c.heap gone library_classes c.heap.fields stored

      kind : IsOfItsKind p s.action
      kind = (names_what_is_there p typed keeps.number keeps.body fr.control next.index (move_of s) keeps.at keeps.control (step_there p bound ac plain.texts c.heap fr keeps next.index s next.here)).1

      -- the object of a `new` is made by a constructor
      by_constructor : (a : Action) → (called_method a ≡ Some named) ⊎ ways.IsConstantRead a named → IsOfItsKind p a → (k : ℕ) (f : Conduct) (i : ℕ) → made_by_new a k f ≡ Some i → constructs (method_at p named) ≡ true
      by_constructor (actions.New z k n) (inl called) of k' f i made = subst (λ (y : MethodId). constructs (method_at p y) ≡ true) (let one : z ≡ named = (let both : Some z ≡ Some named = called in cc) in one) of
      by_constructor (actions.New z k n) (inr reads) of k' f i made = absurd reads
      by_constructor actions.Skip row of k' f i made = absurd (let never : None ≡ Some i = made in cc)
      by_constructor a row of k' f i made = absurd (let never : None ≡ Some i = made in cc)

      -- it throws nothing
      unthrown : ((e : ClassId) → d ≡ conducts.Throws e → ⊥) ⊎ (is_throws s.edge ≡ true) → is_throws s.edge ≡ false → (e : ClassId) → d ≡ conducts.Throws e → ⊥
      unthrown (inl none) goes = none
      unthrown (inr throws) goes = absurd (true≢false (sym throws ∙ goes))

      fresh_here : (e : ClassId) → d ≡ conducts.Fresh e → object_class gone (next_number c.heap) ≡ Some e
      fresh_here e is =
          subst (λ (f : Conduct). object_class (library_done p c.heap fr.locals s.action (method_at p named) (method_at p m) f (length frs + 1) s.pos held_then).heap (next_number c.heap) ≡ Some e) (sym is)
          (fresh_class p c.heap fr.locals s.action (method_at p named) (method_at p m) (length frs + 1) s.pos held_then e)

      library_makes : is_throws s.edge ≡ false → MakesClass p bound s.action → FitsClass p bound gone gift
      library_makes goes makes =
          library_value_fits p bound typed c.heap gone c.arrays m next.by.0 fr.locals s.action d (length shared) (next_number c.heap) next.by.1 (answers_making next.answers (names_making p bound typed s.action named next.row kind makes)) library_classes
          (λ i made. (let new = by_constructor s.action next.row kind (next_number c.heap) d i made in ap (λ (z : MethodId). constructs (method_at p z)) (constructor_itself p named m next.answers new) ∙ new)) (unthrown next.thrown goes) fresh_here
        where
          answers_making : IsAnsweredBy p named m → IsMaking p bound typed (method_at p named) → IsMaking p bound typed (method_at p m)
          answers_making (inl same) its = subst (λ (z : MethodId). IsMaking p bound typed (method_at p z)) (sym same) its
          answers_making (inr runs) its = subst (IsMaking p bound typed) (sym runs.running_at) (inl (
            class_result p bound typed plain.texts runs.running.sig.result runs.method.sig.result (typed.methods m runs.running runs.running_at).signature.result (typed.methods named runs.method runs.named_at).signature.result runs.result
                (made_result p bound typed (Some runs.method) (subst (IsMaking p bound typed) runs.named_at its) (ap is_constructor_kind runs.kind)),
            runs.fit.makes ∙ ap is_constructor_kind runs.kind,
          ))

      no_cast : (a : Action) (x : ℕ) → (called_method a ≡ Some named) ⊎ ways.IsConstantRead a named → IsCastToClass p bound a x → ⊥
      no_cast (actions.Cast t k) x (inl called) is = let never : None ≡ Some named = called in cc
      no_cast (actions.Cast t k) x (inr reads) is = reads
      no_cast actions.Skip x row is = is
      no_cast a x row is = is

      library_have : HaveClass p bound (library_went p c fr frs named m d s)
      library_have = record {
        frames = (
          frame_keeps p bound ac plain.texts gone fr library_now next.index s next.here c.heap gift library_stored
              (library_sets_nothing p bound gone library_now.body fr.locals s.action named gift (temp_fits_class p bound gone fr.locals) (asks_at gone fr library_now next.index s next.here) next.row) library_makes
              (λ x goes is. absurd (no_cast s.action x next.row is)),
          all_still p bound c.heap gone library_classes frs rest,
        );
        fields = same_fields p bound c.heap gone (library_fields p c.heap fr.locals s.action (method_at p named) (method_at p m) d (length frs + 1) s.pos held_then) library_classes stored;
      }

    module _ (named runs : MethodId) (a : Action) (place : Pos) (next : IsStartMove p c.heap c.arrays fr.locals (frame_steps p fr) named runs a) where
      abbrev first : HeapContents
      first = (began p c fr frs named runs a place).heap

      abbrev self : Value
      self = self_begun fr.locals a c.heap

      abbrev arguments : List Value
      arguments = argument_values fr.locals a (method_at p named)

      abbrev all_frames : List Frame
      all_frames = begun p runs self arguments ∷ fr ∷ frs

      start_classes : KeepsClasses c.heap first
      start_classes = started_keeps p c.heap fr.locals a (method_at p named) (length all_frames) place (held_by all_frames)

      start_now : FrameFitsClass p bound first fr
      start_now = keeps_still p bound c.heap first start_classes fr keeps

      has : has_body (body_of (method_at p runs)) ≡ true
      has = ap (λ (x : Option Method). has_body (body_of x)) next.running_at ∙ next.body

      asks : Fits p bound start_now.body a (temp_fits_class p bound first fr.locals)
      asks = subst (λ (x : Action). Fits p bound start_now.body x (temp_fits_class p bound first fr.locals)) next.same (asks_at first fr start_now next.index next.step next.here)

      object_begun : (m : MethodId) (d n : ℕ) → a ≡ actions.New m d n → object_class first (next_number c.heap) ≡ Some next.method.class
      object_begun m d n is =
          subst (λ (b : Action). object_class (started p c.heap fr.locals b (method_at p named) (length all_frames) place (held_by all_frames)).heap (next_number c.heap) ≡ Some next.method.class) (sym is)
          (subst (λ (o : Option Method). object_class (started p c.heap fr.locals (actions.New m d n) o (length all_frames) place (held_by all_frames)).heap (next_number c.heap) ≡ Some next.method.class) (sym next.named_at)
          (begun_class p c.heap fr.locals m d n next.method (length all_frames) place (held_by all_frames)))

      own_this : OfClass p bound (own_type (method_at p runs)) → FitsClass p bound first self
      own_this to =
          self_fits p bound typed c.heap first start_classes c.arrays start_now.body fr.locals named next.method next.named_at a next.row next.calls asks
          (subst (λ (o : Option Method). fits_target p c.heap c.arrays o (form_of a) (operand_of fr.locals a 0) ≡ true) next.named_at next.fits) object_begun runs next.running next.selected next.running_at
          (subst (λ (o : Option Method). OfClass p bound (own_type o)) next.running_at to)

      long : length arguments ≡ length next.method.sig.params.items
      long = length-map-range_with_len (operand_of fr.locals a) 1 (length (params_in (method_at p named))) ∙ same_params (method_at p named) next.method next.named_at

      holds : ArgumentsFitClass p bound first next.method.sig.params.items arguments
      holds k x at to =
          value_of_argument p bound first (operand_of fr.locals a) (length (params_in (method_at p named))) k
          (argument_fits p bound first start_now.body fr.locals named k x (ap (λ (o : Option Method). slice_get (params_of o) k) next.named_at ∙ at) to a asks next.calls)

      fills : BeginsWithClass p bound ac runs first arguments
      fills = arguments_fill p bound ac runs first next.running next.method.sig.params.items arguments next.running_at next.fit.types long holds

      start_have : HaveClass p bound (began p c fr frs named runs a place)
      start_have = record {
        frames = (begun_keeps p bound ac plain.texts first runs self own_this arguments fills has, (start_now, all_still p bound c.heap first start_classes frs rest));
        fields = same_fields p bound c.heap first (started_fields p c.heap fr.locals a (method_at p named) (length all_frames) place (held_by all_frames)) start_classes stored;
      }

  module _ (c d : Config) (fr : Frame) (frs : List Frame) (keeps : FrameFitsClass p bound c.heap fr) (rest : FramesFitClass p bound c.heap frs) (stored : StoredFieldsFitClass p bound c.heap c.heap) (exits : EndsByException p c.heap fr)
      (have : HaveClass p bound c) where
    -- a frame that ends gives what its caller may take
    module _ (caller : Frame) (below : List Frame) (waits : FrameFitsClass p bound c.heap caller) (more : FramesFitClass p bound c.heap below) (w : WaitsFor p c.heap caller fr) (place : Pos) (q : Completion)
        (i : ℕ) (s : Step) (here : slice_get (frame_steps p fr) i ≡ Some s) (ends : s.action ≡ actions.End q) where
      abbrev thrown : Option ClassId
      thrown = exception_class p c.heap (thrown_in fr.locals q)

      abbrev v : Value
      v = result_value fr.locals (method_at p fr.method) q

      -- an end that throws no class throws nothing
      ends_normally : (x : Completion) → s.action ≡ actions.End x → exception_class p c.heap (thrown_in fr.locals x) ≡ None → thrown_in fr.locals x ≡ None
      ends_normally (completions.Throw k t pos) is none = absurd (exits i s k t pos here is none)
      ends_normally (completions.Return pos) is none = refl
      ends_normally (completions.ReturnValue k pos) is none = refl
      ends_normally (completions.Break pos) is none = refl
      ends_normally (completions.Continue pos) is none = refl

      value_fits : thrown ≡ None → OfClass p bound (result_of (method_at p w.named)) → FitsClass p bound c.heap v
      value_fits none to =
          result_fits p bound c.heap keeps.body fr.locals (method_at p fr.method) q returns (ends_normally q ends none) (subst (λ (m : MethodId). OfClass p bound (result_of (method_at p m))) (sym keeps.method) result) result
        where
          returns : Returns p bound keeps.body q (temp_fits_class p bound c.heap fr.locals)
          returns = subst (λ (a : Action). Fits p bound keeps.body a (temp_fits_class p bound c.heap fr.locals)) ends (asks_at c.heap fr keeps i s here)

          result : OfClass p bound (result_of (method_at p fr.method))
          result = plain.results w.named fr.method keeps.number w.runs keeps.id to

      module _ (e : Option ClassId) (is_thrown : e ≡ thrown) (named : MethodId) (t : Step) (same : named ≡ w.named) (back : IsBackStep p (frame_steps p caller) e named t) where
        abbrev after : HeapContents
        after = (returned p c fr caller below place q e named t).heap

        abbrev given : Value
        given = answered fr.locals.this t.action v e

        abbrev held_after : List (List Value)
        held_after = held_by (frame_after p c.heap caller t given ∷ below)

        return_classes : KeepsClasses c.heap after
        return_classes = returned_keeps p c.heap (length below + 1) fr.locals.this caller.locals t.action (method_at p fr.method) (method_at p named) v e place t.pos held_after

        return_now : FrameFitsClass p bound after caller
        return_now = keeps_still p bound c.heap after return_classes caller waits

        result_here : e ≡ None → OfClass p bound (result_of (method_at p named)) → FitsClass p bound c.heap v
        result_here none to = value_fits (sym is_thrown ∙ none) (subst (λ (m : MethodId). OfClass p bound (result_of (method_at p m))) same to)

        -- the step at which the caller waits is one of the same call
        one_call : w.step.action ≡ t.action
        one_call = one_action p waits.number caller.control back.index w.index t w.step (in_caller back.index t back.here) (in_caller w.index w.step w.here) (call_may t.action back.row)
          where
            in_caller : (j : ℕ) (u : Step) → slice_get (frame_steps p caller) j ≡ Some u → slice_get (next_of p waits.number caller.control) j ≡ Some u
            in_caller j u there = ap (λ (steps : List Step). slice_get steps j) (sym (same_steps p bound ac plain.texts c.heap caller waits)) ∙ there

        -- what a `new` of a class under it makes is an object of the class
        made_here : (m : MethodId) (k n : ℕ) → t.action ≡ actions.New m k n → named ≡ m → OfClass p bound (own_type (method_at p m)) → FitsClass p bound c.heap fr.locals.this
        made_here m k n is one to =
            let runs : fr.method ≡ w.named = subst (λ (b : Action). RunsItself b w.named fr.method) (one_call ∙ is) w.itself in
            keeps.this (subst (λ (y : MethodId). OfClass p bound (own_type (method_at p y))) (sym (keeps.method ∙ runs ∙ sym same ∙ one)) to)

        normally : (a : Action) → t.action ≡ a → e ≡ None → IsCallRow a → called_method a ≡ Some named → MakesClass p bound a → FitsClass p bound c.heap (answered_normally fr.locals.this a v)
        normally (actions.Call m k n form) is none row calls makes = result_here none (subst (λ (x : MethodId). OfClass p bound (result_of (method_at p x))) (let one : m ≡ named = (let both : Some m ≡ Some named = calls in cc) in one) makes)
        normally (actions.New m k n) is none row calls makes = made_here m k n is (let one : named ≡ m = (let both : Some m ≡ Some named = calls in cc) in one) makes
        normally (actions.Super m k n) is none row calls makes = absurd makes
        normally actions.Skip is none row calls makes = absurd row
        normally a is none row calls makes = absurd row

        answer : is_throws t.edge ≡ false → MakesClass p bound t.action → (x : Option ClassId) → x ≡ e → FitsClass p bound c.heap (answered fr.locals.this t.action v x)
        answer goes makes None is = normally t.action refl (sym is) back.row back.calls makes
        answer goes makes (Some x) is = absurd (true≢false (sym (edge_throws t.edge (back.thrown x (sym is)).0 (back.thrown x (sym is)).2) ∙ goes))

        back_have : HaveClass p bound (returned p c fr caller below place q e named t)
        back_have = record {
          frames = (
            frame_keeps p bound ac plain.texts after caller return_now back.index t back.here c.heap given (stored_still p bound c.heap after return_classes c.heap.fields stored) (call_sets_nothing p bound after return_now.body caller.locals t.action given back.row)
                (λ goes makes. fits_still p bound c.heap after given return_classes (answer goes makes e refl)) (λ x goes is. calls_no_cast p bound after caller.locals t.action x back.row is),
            all_still p bound c.heap after return_classes below more,
          );
          fields = same_fields p bound c.heap after
              (returned_fields p c.heap (length below + 1) fr.locals.this caller.locals t.action (method_at p fr.method) (method_at p named) v e place t.pos held_after) return_classes stored;
        }

      returned_have : (r : Return) → IsBack p (frame_steps p caller) thrown w.named r → returned_by p c fr caller below place q r ≡ went d → HaveClass p bound d
      returned_have (Back e named t) back same = carried (returned p c fr caller below place q e named t) d same (back_have e back.0 named t back.1 back_step)
        where
          back_step : IsBackStep p (frame_steps p caller) e named t
          back_step = subst (λ (x : Option ClassId). IsBackStep p (frame_steps p caller) x named t) (sym back.0) (subst (λ (m : MethodId). IsBackStep p (frame_steps p caller) thrown m t) (sym back.1) back.2)
      returned_have (StrayBack e at) back same = absurd (let never : stray e at ≡ went d = same in cc)
      returned_have NoWay back same = carried c d same have

    main_have : (place : Pos) (q : Completion) → HaveClass p bound (main_ended p c fr place q)
    main_have place q = record { frames = tt; fields = same_fields p bound c.heap (main_ended p c fr place q).heap refl (main_keeps p c.heap place) stored }

    end_have : (frs : List Frame) → AllStand p frs → IsCalledFrom p c.heap fr frs → FramesFitClass p bound c.heap frs → (place : Pos) (q : Completion) (i : ℕ) (s : Step) → slice_get (frame_steps p fr) i ≡ Some s → s.action ≡ actions.End q
        → end p c fr frs place q ≡ went d → HaveClass p bound d
    end_have [] standing stacked more place q i s here ends same = carried (main_ended p c fr place q) d same (main_have place q)
    end_have (caller ∷ below) standing stacked more place q i s here ends same =
        let w : WaitsFor p c.heap caller fr = stacked.0 in
        returned_have caller below more.0 more.1 w place q i s here ends (return_move p (frame_steps p caller) (exception_class p c.heap (thrown_in fr.locals q)))
        (back_is p caller standing.0 w.named w.index w.step w.here w.calls (exception_class p c.heap (thrown_in fr.locals q))) same

    moved_have : AllStand p frs → IsCalledFrom p c.heap fr frs → (mv : Move) → IsNext p c.heap c.arrays fr.method fr.locals (frame_steps p fr) mv
        → ways.IsNext p c.heap c.arrays fr.method fr.locals (frame_steps p fr) mv → moved p c fr frs mv ≡ went d → HaveClass p bound d
    moved_have standing stacked (Inner e s) next way same = carried (within p c fr frs e s) d same (inner_have c fr frs keeps rest stored e s next.0 next.1 next.2)
    moved_have standing stacked (Start named runs a place) next way same = carried (began p c fr frs named runs a place) d same (start_have c fr frs keeps rest stored named runs a place next)
    moved_have standing stacked (Library named m x s) next way same = carried (library_went p c fr frs named m x s) d same (library_have c fr frs keeps rest stored named m x s way)
    moved_have standing stacked (End place q) next way same = end_have frs standing stacked rest place q next.0 next.1 next.2 next.3 same
    moved_have standing stacked (Stray e place) next way same = absurd (let never : stray e place ≡ went d = same in cc)
    moved_have standing stacked Rest next way same = carried c d same have

    way_here : HasMadeClasses p c.heap → ways.IsNext p c.heap c.arrays fr.method fr.locals (frame_steps p fr) (next_move p c.heap c.arrays (next_choice c.choices c.used) fr.method fr.locals (frame_steps p fr) (standing (slice_get fr.control 0)))
    way_here made =
        subst (λ (steps : List Step). ways.IsNext p c.heap c.arrays fr.method fr.locals steps (next_move p c.heap c.arrays (next_choice c.choices c.used) fr.method fr.locals steps (standing (slice_get fr.control 0))))
        (sym (same_steps p bound ac plain.texts c.heap fr keeps))
        (ways.next_is p keeps.number fr.control (λ i s here. plain_forms c.heap fr keeps i s (in_steps c.heap fr keeps i s here)) c.heap c.arrays (next_choice c.choices c.used) fr.method fr.locals made)

  by_frames : (c d : Config) (frs : List Frame) → HasMadeClasses p c.heap → HaveClass p bound c → AllStand p frs → IsStacked p c.heap frs → HaveTargets p frs → FramesFitClass p bound c.heap frs → TopEndsByException p c.heap frs → moved_by p c frs (top_move p c frs) ≡ went d
      → HaveClass p bound d
  by_frames c d [] made have standing stacked targets keep exits same = absurd (let never : ended c.ended ≡ went d = same in cc)
  by_frames c d (fr ∷ frs) made have standing stacked targets keep exits same =
      moved_have c d fr frs keep.0 keep.1 have.fields exits have standing.1 stacked (top_move p c (fr ∷ frs))
      (next_is p ac forms c.heap c.arrays (next_choice c.choices c.used) fr standing.0 targets.0 made)
      (way_here c d fr frs keep.0 keep.1 have.fields exits have made) same

-- ---- the laws

class_step : (p : Program) (bound : ClassId) → Accept p → HasPlainForms p → HasClassResults p bound → (c d : Config) → Agree p c → HaveTargets p c.frames → TopEndsByException p c.heap c.frames → HaveClass p bound c → step p c ≡ went d
    → HaveClass p bound d
unfolding step
class_step p bound ac forms plain c d agrees targets exits have same = by_frames p bound ac forms plain c d c.frames agrees.classes have agrees.standing agrees.stacked targets have.frames exits same

pub classes_step : (p : Program) → Accept p → HasPlainForms p → KeepsResultClasses p → (c d : Config) → Agree p c → HaveTargets p c.frames → TopEndsByException p c.heap c.frames → HaveClasses p c → step p c ≡ went d → HaveClasses p d
classes_step p ac forms plain c d agrees targets exits have same bound own = class_step p bound ac forms (plain bound own) c d agrees targets exits (have bound own) same

pub classes_at_start : (p : Program) → Accept p → (main : MethodId) (m : Method) (choices : Choices) → method_at p main ≡ Some m → has_body m.body ≡ true → HaveClasses p (start_config p main choices)
unfolding start_config
classes_at_start p ac main m choices at has bound own = record {
  frames = (
    begun_keeps p bound ac own (start_config p main choices).heap main values.Nothing (λ to. tt) (values.Array 0 ∷ []) (array_fills p bound ac main (start_config p main choices).heap 0)
        (ap (λ (x : Option Method). has_body (body_of x)) at ∙ has),
    tt,
  );
  fields = All-nil (λ s. StoredFieldFitsClass p bound (start_config p main choices).heap s);
}

raised_fits : (p : Program) → Accept p → IsNotAboveString p p.core.throwable → (h : HeapContents) (fr : Frame) → FrameFitsClass p p.core.throwable h fr → RaisesException p h fr
raised_fits p ac own h fr keeps i s d e here is =
    let raises : Fits p p.core.throwable keeps.body (actions.Raise d e) (temp_fits_class p p.core.throwable h fr.locals) =
    subst (λ (a : Action). Fits p p.core.throwable keeps.body a (temp_fits_class p p.core.throwable h fr.locals)) is (fits p p.core.throwable ac own h fr keeps i s here) in
    raises ((is_under_law p ac.well_formed.valid.typed.hierarchy p.core.throwable p.core.throwable).1 (itself p.core.throwable))

pub raised_values_are_exceptions : (p : Program) → Accept p → IsNotAboveString p p.core.throwable → (h : HeapContents) (frs : List Frame) → FramesFitClass p p.core.throwable h frs → TopRaisesException p h frs
raised_values_are_exceptions p ac own h [] keep = tt
raised_values_are_exceptions p ac own h (fr ∷ frs) keep = raised_fits p ac own h fr keep.0
