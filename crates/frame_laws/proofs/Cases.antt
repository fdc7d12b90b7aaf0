-- What comes next in a frame: by the cases of the machine, for programs of the plain forms.
use Rattle.std.proofs.Common.{◌≡◌, ◌⊎◌, inl, inr, ℕ, ◌+◌, Bool, true, false, cond, Option, Some, None, List, [], ◌∷◌, ◌++◌, slice_get, find, refl, sym, ap, ◌∙◌, subst, true≢false, if◌then◌else◌, add-one, eqb-true}
use Rattle.program_model.specs.declared.kinds.ClassId.{ClassId}
use Rattle.program_model.specs.declared.kinds.FieldId.{FieldId}
use Rattle.program_model.specs.declared.kinds.MethodId.{MethodId}
use Rattle.program_model.specs.declared.program.Method.{Method}
use Rattle.program_model.specs.declared.program.Program.{Program}
use Rattle.program_model.specs.Lookups.{method_at}
use Rattle.program_model.specs.SuperTests.{is_class, is_ignored, is_under}
use Rattle.rlc_base.specs.declared.place.Pos.{Pos}
use Rattle.java_control.specs.Calls.{called_method}
use Rattle.java_control.specs.Control.{Step}
use Rattle.java_control.specs.Exceptions.{throws_in, unchecked}
use Rattle.control_actions.specs.declared.action.Action.{Action}
use Rattle.control_actions.specs.declared.action.Action.TheVariants as actions
use Rattle.control_actions.specs.declared.action.Edge.{Edge}
use Rattle.control_actions.specs.declared.action.Edge.TheVariants as edges
use Rattle.control_actions.specs.declared.action.PlainValue.{PlainValue}
use Rattle.control_actions.specs.declared.action.PlainValue.TheVariants as plain
use Rattle.control_actions.specs.declared.action.TargetForm.TheVariants as target_form
use Rattle.control_actions.specs.declared.place.Place.{Place}
use Rattle.ownership_rules.specs.Callees.{may_be_null_target, may_have_null_target}
use Rattle.fact_laws.specs.Accept.{Accept}
use Rattle.stub_conduct.specs.declared.choice.Choice.{Choice}
use Rattle.stub_conduct.specs.declared.choice.Conduct.{Conduct}
use Rattle.stub_conduct.specs.declared.choice.Conduct.TheVariants as conducts
use Rattle.ledger_state.specs.Classes.{runtime_class}
use Rattle.ledger_state.specs.Contents.{HeapContents}
use Rattle.ledger_state.specs.Values.{is_null}
use Rattle.ledger_state.specs.declared.array.ArrayObject.{ArrayObject}
use Rattle.ledger_state.specs.declared.locals.Locals.{Locals}
use Rattle.ledger_steps.specs.Obligations.{is_library_method}
use Rattle.ledger_moves.specs.Operations.{thrown_by_operation}
use Rattle.ledger_steps.specs.LedgerCallsCalls.{body_of, form_of, has_null_target, is_stray_from, leaves_by, operand_of, overriding_by, position_of, running}
use Rattle.ledger_steps.specs.Conducts.{library_method, on_this, settled}
use Rattle.ledger_moves.specs.Configuration.{Frame}
use Rattle.ledger_moves.specs.Choosing.{agrees, agrees_with, edge_of_class, frame_steps, goes_by, operation_edge, same_edge}
use Rattle.ledger_moves.specs.declared.standing.FirstAction.{FirstAction}
use Rattle.ledger_moves.specs.Moves.{Move, Inner, Start, Stray, Rest, by_class, by_edge, call, call_of, chosen_of, fits_target, has_body, inner_by, library_as, library_by, library_call, next_move, null_target, operate, program_call, standing, take, take_chosen, take_plain}
use Rattle.agreement.specs.PlacePlaces.{IsWay}
use Rattle.agreement.specs.Agreement.{HasMadeClasses, Stands}
use Rattle.agreement.specs.PlainForms.{HasPlainForms, IsAnsweredBy, IsPlainAction, IsPlainCall, LibraryRunsFor, MayRun, by_name, may_be_made, run_by}
use Rattle.agreement.specs.PlainForms as plain_forms
use Rattle.agreement.specs.Fitting.{FitsMethod}
use Rattle.agreement.proofs.Conducts.{made_object_fits}
use Rattle.fact_laws.specs.Outcomes.{IsCallRow, IsPlainRow}
use Rattle.frame_laws.specs.Nexts.{IsConstantRead, IsNext}
use Rattle.frame_laws.proofs.First.{IsAfterFirst, step_after_first, throws_nothing}
use Rattle.frame_laws.specs.Frames.{KeepsTargets}
use Rattle.frame_laws.proofs.TargetLaws.{target_is_there}
use Rattle.fact_laws.specs.StepTargets.{this_operand}
use Rattle.frame_laws.specs.Steps.{IsTrueTest, is_super}
use Rattle.frame_laws.proofs.Unmet.{call_may}
use Rattle.fact_laws.specs.Calling.{may_call}
use Rattle.fact_laws.proofs.CallWays.{one_action}
use Rattle.frame_laws.proofs.Ready.{plain_call, plain_step, step_here}

-- an element that is found stands somewhere and passes the test
pub found_in : {X : Type 0} (test : X → Bool) (xs : List X) (x : X) → find test xs ≡ Some x → (i : ℕ) × (slice_get xs i ≡ Some x) × (test x ≡ true)
found_in test [] x is = absurd (let never : None ≡ Some x = is in cc)
found_in test (y ∷ ys) x is = go (test y) refl is (found_in test ys x)
  where
    go : (b : Bool) → test y ≡ b → cond b (Some y) (find test ys) ≡ Some x → (find test ys ≡ Some x → (i : ℕ) × (slice_get ys i ≡ Some x) × (test x ≡ true))
        → (i : ℕ) × (slice_get (y ∷ ys) i ≡ Some x) × (test x ≡ true)
    go true one same further = let here : y ≡ x = (let some : Some y ≡ Some x = same in cc) in (0, ap Some here, ap test (sym here) ∙ one)
    go false one same further = let rest = further same in (rest.0 + 1, rw add-one rest.1, rest.2)

-- ---- edges

way_of : (p : Program) (h : HeapContents) (arrays : List ArrayObject) (m : MethodId) (l : Locals) (a : Action) (e : Edge) → agrees_with p h arrays m l a e ≡ true → IsWay a e
way_of p h arrays m l actions.Skip e is = tt
way_of p h arrays m l (actions.Put f d this) e is = go (thrown_by_operation p h arrays l (actions.Put f d this)) e is
  where
    go : (c : Option ClassId) (e : Edge) → same_edge (operation_edge (actions.Put f d this) c) e ≡ true → IsWay (actions.Put f d this) e
    go None edges.Go same = tt
    go None (edges.Throws t) same = tt
    go None e same = absurd (true≢false (sym same))
    go (Some c) edges.Go same = tt
    go (Some c) (edges.Throws t) same = tt
    go (Some c) e same = absurd (true≢false (sym same))
way_of p h arrays m l a e is = tt

test_of : (p : Program) (h : HeapContents) (arrays : List ArrayObject) (m : MethodId) (l : Locals) (a : Action) (e : Edge) → agrees_with p h arrays m l a e ≡ true → IsTrueTest l a e
test_of p h arrays m l actions.Skip e is = tt
test_of p h arrays m l (actions.Test d) edges.Null is = is
test_of p h arrays m l (actions.Test d) e is = tt
test_of p h arrays m l a e is = tt

pub go_edge : (e : Edge) → same_edge edges.Go e ≡ true → e ≡ edges.Go
go_edge edges.Go is = refl
go_edge e is = absurd (true≢false (sym is))

pub same_class : (c d : ClassId) → is_class c d ≡ true → c ≡ d
same_class c d is = ap (λ (n : ℕ). (let z : ClassId = record { 0 = n } in z)) (eqb-true c.0 d.0 is)

-- the edge of a class, or `Go`
pub class_edge : (c : Option ClassId) (e : Edge) → same_edge (edge_of_class c) e ≡ true → e ≡ edge_of_class c
class_edge None e is = go_edge e is
class_edge (Some c) edges.Go is = absurd (true≢false (sym is))
class_edge (Some c) (edges.Throws d) is = ap edges.Throws (sym (same_class c d is))
class_edge (Some c) e is = absurd (true≢false (sym is))

-- a super constructor of the library makes no object
fresh_is_other : (a : Action) (d : Conduct) (c : ClassId) → on_this a d ≡ conducts.Fresh c → is_super a ≡ false
fresh_is_other actions.Skip d c is = refl
fresh_is_other (actions.Super m n k) (conducts.Fresh e) c is = absurd (let never : conducts.Nothing ≡ conducts.Fresh c = is in cc)
fresh_is_other (actions.Super m n k) conducts.Null c is = absurd (let never : conducts.Null ≡ conducts.Fresh c = is in cc)
fresh_is_other (actions.Super m n k) (conducts.Throws e) c is = absurd (let never : conducts.Throws e ≡ conducts.Fresh c = is in cc)
fresh_is_other (actions.Super m n k) (conducts.Existing j) c is = absurd (let never : conducts.Existing j ≡ conducts.Fresh c = is in cc)
fresh_is_other (actions.Super m n k) conducts.Argument c is = absurd (let never : conducts.Argument ≡ conducts.Fresh c = is in cc)
fresh_is_other (actions.Super m n k) (conducts.Value z) c is = absurd (let never : conducts.Value z ≡ conducts.Fresh c = is in cc)
fresh_is_other (actions.Super m n k) conducts.Nothing c is = absurd (let never : conducts.Nothing ≡ conducts.Fresh c = is in cc)
fresh_is_other a d c is = refl

-- what names no method runs none
pub none_runs : (p : Program) (m r : MethodId) → MayRun p m r → method_at p m ≡ None → method_at p r ≡ None
unfolding run_by
none_runs p m _ by_name at = at
none_runs p m _ (plain_forms.by_class c made) at = rw at at

-- ---- what comes next

module _ (p : Program) (ac : Accept p) (forms : HasPlainForms p) (h : HeapContents) (arrays : List ArrayObject) (choice : Choice)
    (fr : Frame) (st : Stands p fr) (targets : KeepsTargets p fr) (made : HasMadeClasses p h) where
  abbrev steps : List Step
  steps = frame_steps p fr

  abbrev Next : Move → Type 0
  Next mv = IsNext p h arrays fr.method fr.locals steps mv

  module _ (e : Option ClassId) (i : ℕ) (s : Step) (here : slice_get steps i ≡ Some s) (agreeing : agrees p h arrays fr.method fr.locals s ≡ true)
      (thrown : e ≡ thrown_by_operation p h arrays fr.locals s.action) where
    form : IsPlainAction p s.action
    form = plain_step p ac forms fr st i s here

    -- the other steps of a call are steps of the call
    one_call : may_call s.action ≡ true → (t : Step) (j : ℕ) → slice_get steps j ≡ Some t → t.action ≡ s.action
    one_call call' t j there = one_action p st.number fr.control i j s t (step_here p fr st i s here) (step_here p fr st j t there) call'

    inner_by_row : (c : Option ClassId) → c ≡ thrown_by_operation p h arrays fr.locals s.action → IsPlainRow s.action → Next (Inner c s)
    inner_by_row c throws row = (
      i,
      here,
      inl (record {
        row = row;
        way = way_of p h arrays fr.method fr.locals s.action s.edge agreeing;
        test = test_of p h arrays fr.method fr.locals s.action s.edge agreeing;
        thrown = throws;
        agreeing = agreeing;
      }),
    )

    inner_here : IsPlainRow s.action → Next (Inner e s)
    inner_here row = inner_by_row e thrown row

    -- a store into an owning field throws nothing
    store_here : (f : FieldId) (d : ℕ) → s.action ≡ actions.PutOwn f d → Next (Inner e s)
    store_here f d is = (
      i,
      here,
      inr (inr (record {
        field = f;
        temp = d;
        action = is;
        edge = go_edge s.edge (subst (λ (a : Action). agrees_with p h arrays fr.method fr.locals a s.edge ≡ true) is agreeing);
        normal = thrown ∙ ap (thrown_by_operation p h arrays fr.locals) is;
      })),
    )

    abbrev IsNoSuper : Conduct → Type 0
    IsNoSuper d = (c : ClassId) → d ≡ conducts.Fresh c → is_super s.action ≡ false

    abbrev IsRow : MethodId → Type 0
    IsRow named = (IsCallRow s.action × (called_method s.action ≡ Some named)) ⊎ IsConstantRead s.action

    abbrev IsChosen : MethodId → Action → Conduct → Type 0
    IsChosen named a d = (choice' : Choice) × (d ≡ on_this a (settled p h arrays named choice' (position_of None fr.locals a)))

    -- the method of the library that runs, on a target that fits the named one
    abbrev IsRan : MethodId → Action → Type 0
    IsRan named a = called_method a ≡ Some named → (is_library_method p (method_at p (running p h fr.locals a named)) ≡ true)
        × (fits_target p h arrays (method_at p named) (form_of a) (operand_of fr.locals a 0) ≡ true)
        × ((c : ClassId) → runtime_class p h (operand_of fr.locals a 0) ≡ Some c → may_be_made p c ≡ true)

    -- the edge by which the call ends
    abbrev IsLeft : MethodId → Conduct → Edge → Type 0
    IsLeft named (conducts.Throws c) f = (k : ClassId) × (leaves_by p (method_at p named) c ≡ Some k) × (f ≡ edges.Throws k)
    IsLeft named d f = f ≡ edges.Go

    ends_normally : (named : MethodId) (d : Conduct) (f : Edge) → ((c : ClassId) → d ≡ conducts.Throws c → ⊥) → IsLeft named d f → f ≡ edges.Go
    ends_normally named (conducts.Throws c) f none left = absurd (none c refl)
    ends_normally named d f none left = left

    module _ (named m : MethodId) (call' : may_call s.action ≡ true) (answers : IsAnsweredBy p named m) (row : IsRow named) (lib : is_library_method p (method_at p m) ≡ true)
        (ran : IsRan named s.action) where
      library_next : (d : Conduct) → FitsMethod p (method_at p m) d → IsNoSuper d → IsChosen m s.action d → (f : Edge) → ((g : Edge) → same_edge f g ≡ true → IsLeft named d g) → (t : Option Step) → by_edge f steps ≡ t
          → Next (library_by named m d t)
      library_next d fits' other chosen f left None is = tt
      library_next d fits' other chosen f left (Some t) is =
          let found = found_in (goes_by f) steps t is in
          let same = one_call call' t found.0 found.1 in
          record {
            index = found.0;
            here = found.1;
            answers = answers;
            row = subst (λ (a : Action). (IsCallRow a × (called_method a ≡ Some named)) ⊎ IsConstantRead a) (sym same) row;
            library = lib;
            other = λ c fresh. ap is_super same ∙ other c fresh;
            edge = λ c fresh. subst (λ (k : Conduct). IsLeft named k t.edge) fresh (left t.edge found.2);
            thrown = λ c throws. subst (λ (k : Conduct). IsLeft named k t.edge) throws (left t.edge found.2);
            normal = λ none. ends_normally named d t.edge none (left t.edge found.2);
            fits = fits';
            ran = subst (IsRan named) (sym same) ran;
            by = subst (λ (a : Action). IsChosen m a d) (sym same) chosen;
          }

      library_throws : (c : ClassId) → FitsMethod p (method_at p m) (conducts.Throws c) → IsNoSuper (conducts.Throws c) → IsChosen m s.action (conducts.Throws c) → (x : Option ClassId) → leaves_by p (method_at p named) c ≡ x
          → Next (library_by named m (conducts.Throws c) (by_class x steps))
      library_throws c fits' other chosen None is = tt
      library_throws c fits' other chosen (Some k) is = library_next (conducts.Throws c) fits' other chosen (edges.Throws k) (λ g same. (k, is, class_edge (Some k) g same)) _ refl

      library_goes : (d : Conduct) → FitsMethod p (method_at p m) d → IsNoSuper d → IsChosen m s.action d → Next (library_as p steps s.pos named m d)
      unfolding library_as
      library_goes (conducts.Throws c) fits' other chosen = go (is_stray_from p (method_at p named) c)
        where
          go : (b : Bool) → Next (if b then Stray c s.pos else library_by named m (conducts.Throws c) (by_class (leaves_by p (method_at p named) c) steps))
          go true = tt
          go false = library_throws c fits' other chosen (leaves_by p (method_at p named) c) refl
      library_goes d fits' other chosen = library_next d fits' other chosen edges.Go (λ g same. go_edge g same) _ refl

      library_called : Next (library_call p h arrays choice fr.locals steps s.action s.pos named m)
      unfolding library_call
      library_called = library_goes (on_this s.action (settled p h arrays m choice (position_of None fr.locals s.action)))
          (made_object_fits p h arrays m choice (position_of None fr.locals s.action) s.action)
          (λ c fresh. fresh_is_other s.action (settled p h arrays m choice (position_of None fr.locals s.action)) c fresh)
          (choice, refl)

    -- the method that runs may run at a call that names the other
    may_by_class : (m : MethodId) (c : Option ClassId) → ((k : ClassId) → c ≡ Some k → may_be_made p k ≡ true) → MayRun p m (overriding_by p m c)
    unfolding run_by
    may_by_class m None of_made = by_name
    may_by_class m (Some c) of_made = plain_forms.by_class c (of_made c refl)

    may_run : (a : Action) (named : MethodId) → MayRun p named (running p h fr.locals a named)
    may_run actions.Skip named = by_name
    may_run (actions.Call m d n target_form.Static) named = by_name
    may_run (actions.Call m d n target_form.Super) named = by_name
    may_run (actions.Call m d n target_form.Other) named = may_by_class named (runtime_class p h (operand_of fr.locals (actions.Call m d n target_form.Other) 0)) (made (operand_of fr.locals (actions.Call m d n target_form.Other) 0))
    may_run (actions.Call m d n target_form.This) named = may_by_class named (runtime_class p h (operand_of fr.locals (actions.Call m d n target_form.This) 0)) (made (operand_of fr.locals (actions.Call m d n target_form.This) 0))
    may_run (actions.New m d n) named = by_name
    may_run (actions.Super m d n) named = by_name
    may_run a named = by_name

    -- `this` is never null
    this_is_there : (d : ℕ) → this_operand s.action ≡ Some d → has_null_target fr.locals s.action ≡ true → ⊥
    this_is_there d is null = true≢false (sym null ∙ target_is_there p ac fr targets i s d here is)

    null_operand : (a : Action) → s.action ≡ a → IsCallRow a → has_null_target fr.locals a ≡ true → (is_null (operand_of fr.locals a 0) ≡ true) × (may_have_null_target a ≡ true)
    null_operand actions.Skip is row null = absurd row
    null_operand (actions.Call m d n target_form.Static) is row null = absurd (true≢false (sym null))
    null_operand (actions.Call m d n target_form.Other) is row null = (null, refl)
    null_operand (actions.Call m d n target_form.This) is row null = absurd (this_is_there d (ap this_operand is) (ap (has_null_target fr.locals) is ∙ null))
    null_operand (actions.Call m d n target_form.Super) is row null = absurd (this_is_there d (ap this_operand is) (ap (has_null_target fr.locals) is ∙ null))
    null_operand (actions.New m d n) is row null = absurd (true≢false (sym null))
    null_operand (actions.Super m d n) is row null = absurd (true≢false (sym null))
    null_operand a is row null = absurd row

    null_edge : (c : ClassId) (f : Edge) → same_edge (edges.Throws c) f ≡ true → is_under p p.core.null_pointer_exception c ≡ true → is_ignored p p.core.null_pointer_exception ≡ false
        → may_have_null_target s.action ≡ true → may_be_null_target p s.action f ≡ true
    null_edge c edges.Go same under heeded target = absurd (true≢false (sym same))
    null_edge c (edges.Throws d) same under heeded target = rw (target, heeded) (subst (λ (z : ClassId). is_under p p.core.null_pointer_exception z ≡ true) (same_class c d same) under)
    null_edge c f same under heeded target = absurd (true≢false (sym same))

    null_next : (c : ClassId) → IsCallRow s.action → has_null_target fr.locals s.action ≡ true → is_ignored p p.core.null_pointer_exception ≡ false
        → is_under p p.core.null_pointer_exception c ≡ true → (t : Option Step) → by_edge (edges.Throws c) steps ≡ t → Next (inner_by (Some p.core.null_pointer_exception) t)
    null_next c row null heeded under None is = tt
    null_next c row null heeded under (Some t) is =
        let found = found_in (goes_by (edges.Throws c)) steps t is in
        let same = one_call (call_may s.action row) t found.0 found.1 in
        let operand = null_operand s.action refl row null in (
          found.0,
          found.1,
          inr (inl (record {
            row = subst IsCallRow (sym same) row;
            null = subst (λ (a : Action). is_null (operand_of fr.locals a 0) ≡ true) (sym same) operand.0;
            target = subst (λ (a : Action). may_be_null_target p a t.edge ≡ true) (sym same) (null_edge c t.edge found.2 under heeded operand.1);
            thrown = refl;
          })),
        )

    -- the exception of a null target leaves by a class that it is under
    null_leaves : (named : MethodId) → IsCallRow s.action → has_null_target fr.locals s.action ≡ true → is_ignored p p.core.null_pointer_exception ≡ false
        → (x : Option ClassId) → leaves_by p (method_at p named) p.core.null_pointer_exception ≡ x → Next (inner_by (Some p.core.null_pointer_exception) (by_class x steps))
    null_leaves named row null heeded None is = tt
    null_leaves named row null heeded (Some c) is =
        null_next c row null heeded (found_in (is_under p p.core.null_pointer_exception) (throws_in (method_at p named) ++ unchecked p) c is).2 _ refl

    null_goes : (named : MethodId) → IsCallRow s.action → has_null_target fr.locals s.action ≡ true → Next (null_target p steps s.pos named)
    unfolding null_target
    null_goes named row null = go (is_ignored p p.core.null_pointer_exception) refl
      where
        go : (b : Bool) → is_ignored p p.core.null_pointer_exception ≡ b
            → Next (if b then Stray p.core.null_pointer_exception s.pos
            else inner_by (Some p.core.null_pointer_exception) (by_class (leaves_by p (method_at p named) p.core.null_pointer_exception) steps))
        go true is = tt
        go false is = null_leaves named row null is (leaves_by p (method_at p named) p.core.null_pointer_exception) refl

    started : (named runs : MethodId) (pos : Pos) → IsCallRow s.action → called_method s.action ≡ Some named → has_null_target fr.locals s.action ≡ false
        → fits_target p h arrays (method_at p named) (form_of s.action) (operand_of fr.locals s.action 0) ≡ true
        → runs ≡ running p h fr.locals s.action named → MayRun p named runs → IsPlainCall p named
        → is_library_method p (method_at p runs) ≡ false → Next (program_call p s.action pos named runs)
    started named runs pos row is there' fits' selected may form' other = by (method_at p named) refl (method_at p runs) refl
      where
        by : (n : Option Method) → method_at p named ≡ n → (x : Option Method) → method_at p runs ≡ x → Next (if has_body (body_of (method_at p runs)) then Start named runs s.action pos else Rest)
        by n at None there = rw there tt
        by None at (Some x) there = absurd (let never : None ≡ Some x = sym (none_runs p named runs may at) ∙ there in cc)
        by (Some n) at (Some x) there = rw there (go (has_body x.body) refl)
          where
            go : (b : Bool) → has_body x.body ≡ b → Next (if b then Start named runs s.action pos else Rest)
            go false no_body = tt
            go true body = record {
              index = i;
              step = s;
              here = here;
              same = refl;
              row = row;
              calls = is;
              target = there';
              fits = fits';
              selected = selected;
              may = may;
              plain = form';
              method = n;
              named_at = at;
              running = x;
              running_at = there;
              body = body;
              fit = form'.program runs n x may at there (sym (ap (is_library_method p) there) ∙ other);
            }

    call_of_by : (named runs : MethodId) → IsCallRow s.action → called_method s.action ≡ Some named → has_null_target fr.locals s.action ≡ false
        → fits_target p h arrays (method_at p named) (form_of s.action) (operand_of fr.locals s.action 0) ≡ true
        → runs ≡ running p h fr.locals s.action named → MayRun p named runs → IsPlainCall p named
        → Next (call_of p h arrays choice fr.locals steps s.action s.pos named runs)
    unfolding call_of
    call_of_by named runs row is there' fits' selected may form' = go (is_library_method p (method_at p runs)) refl
      where
        go : (b : Bool) → is_library_method p (method_at p runs) ≡ b
            → Next (if b then library_call p h arrays choice fr.locals steps s.action s.pos named (library_method p named runs) else program_call p s.action s.pos named runs)
        go true lib = by (is_library_method p (method_at p named)) refl
          where
            ran : IsRan named s.action
            ran called = (ap (λ (k : MethodId). is_library_method p (method_at p k)) (sym selected) ∙ lib, fits', made (operand_of fr.locals s.action 0))

            its : is_library_method p (method_at p named) ≡ false → LibraryRunsFor p named runs
            its declared = elim (form'.library runs may lib) [ inl same ↦ absurd (true≢false (sym same ∙ declared)) | inr other ↦ other ]

            by : (b : Bool) → is_library_method p (method_at p named) ≡ b → Next (library_call p h arrays choice fr.locals steps s.action s.pos named (if b then named else runs))
            by true declared = library_called named named (call_may s.action row) (inl refl) (inl (row, is)) declared ran
            by false declared = library_called named runs (call_may s.action row) (inr (its declared)) (inl (row, is)) lib ran
        go false other = started named runs s.pos row is there' fits' selected may form' other

    call_of_goes : (named : MethodId) → IsCallRow s.action → called_method s.action ≡ Some named → has_null_target fr.locals s.action ≡ false
        → fits_target p h arrays (method_at p named) (form_of s.action) (operand_of fr.locals s.action 0) ≡ true
        → Next (call_of p h arrays choice fr.locals steps s.action s.pos named (running p h fr.locals s.action named))
    call_of_goes named row is there' fits' = call_of_by named (running p h fr.locals s.action named) row is there' fits' refl (may_run s.action named) (plain_call p s.action named form row is)

    call_goes : (named : MethodId) → IsCallRow s.action → called_method s.action ≡ Some named → Next (call p h arrays choice fr.locals steps s.action s.pos named)
    unfolding call
    call_goes named row is = go (has_null_target fr.locals s.action) refl (fits_target p h arrays (method_at p named) (form_of s.action) (operand_of fr.locals s.action 0)) refl
      where
        go : (b : Bool) → has_null_target fr.locals s.action ≡ b → (c : Bool) → fits_target p h arrays (method_at p named) (form_of s.action) (operand_of fr.locals s.action 0) ≡ c
            → Next (if b then null_target p steps s.pos named
            else (if c then call_of p h arrays choice fr.locals steps s.action s.pos named (running p h fr.locals s.action named) else Rest))
        go true null c fits' = null_goes named row null
        go false there' true fits' = call_of_goes named row is there' fits'
        go false there' false fits' = tt

    constant_goes : (q : Place) (v : PlainValue) → s.action ≡ actions.Plain q v → Next (take_plain p h arrays choice fr.locals steps s v)
    unfolding take_plain
    constant_goes q (plain.Literal x) is = inner_by_row None (sym (ap (thrown_by_operation p h arrays fr.locals) is)) (subst IsPlainRow (sym is) tt)
    constant_goes q (plain.Default t) is = inner_by_row None (sym (ap (thrown_by_operation p h arrays fr.locals) is)) (subst IsPlainRow (sym is) tt)
    constant_goes q (plain.StaticField f) is = inner_by_row None (sym (ap (thrown_by_operation p h arrays fr.locals) is)) (subst IsPlainRow (sym is) tt)
    constant_goes q (plain.LibraryConstant m) is =
        library_called m m (ap may_call is) (inl refl) (inr (subst IsConstantRead (sym is) tt)) (subst (IsPlainAction p) is form).0
        (λ called. absurd (let never : ◌≡◌ {A = Option MethodId} None (Some m) = ap called_method (sym is) ∙ called in cc))

    other_goes : IsPlainRow s.action → Next (Inner e s)
    other_goes row = inner_here row

    take_goes : (a : Action) → s.action ≡ a → Next (take p h arrays choice fr.locals steps e s a)
    unfolding take
    take_goes actions.Skip is = other_goes (subst IsPlainRow (sym is) tt)
    take_goes (actions.Call m d n f) is = call_goes m (subst IsCallRow (sym is) tt) (ap called_method is)
    take_goes (actions.New m d n) is = call_goes m (subst IsCallRow (sym is) tt) (ap called_method is)
    take_goes (actions.Super m d n) is = call_goes m (subst IsCallRow (sym is) tt) (ap called_method is)
    take_goes (actions.Plain q v) is = constant_goes q v is
    take_goes (actions.PutOwn f d) is = store_here f d is
    take_goes (actions.End q) is = (i, s, here, is)
    take_goes a is = other_goes (subst IsPlainRow (sym is) tt)

  -- what the action that stands first throws
  abbrev thrown_first : Option FirstAction → Option ClassId
  thrown_first None = None
  thrown_first (Some a) = thrown_by_operation p h arrays fr.locals a.action

  thrown_here : (x : Option FirstAction) (a : Action) → IsAfterFirst x a → thrown_first x ≡ thrown_by_operation p h arrays fr.locals a
  thrown_here None a quiet = sym (throws_nothing p h arrays fr.locals a quiet)
  thrown_here (Some b) a same = ap (thrown_by_operation p h arrays fr.locals) (sym same)

  chosen_goes : (e : Option ClassId) → thrown_first (standing (slice_get fr.control 0)) ≡ e → (t : Option Step) → chosen_of p h arrays fr.method fr.locals steps ≡ t
      → Next (take_chosen p h arrays choice fr.locals steps e t)
  chosen_goes e same None is = tt
  chosen_goes e same (Some s) is =
      let found = found_in (agrees p h arrays fr.method fr.locals) steps s is in
      take_goes e found.0 s found.1 found.2
      (sym same ∙ thrown_here (standing (slice_get fr.control 0)) s.action (step_after_first p st.number fr.control found.0 s (step_here p fr st found.0 s found.1)))
      s.action refl

  operate_goes : (pos : Pos) (e : Option ClassId) → thrown_first (standing (slice_get fr.control 0)) ≡ e → Next (operate p h arrays choice fr.method fr.locals steps pos e)
  unfolding operate
  operate_goes pos None same = chosen_goes None same (chosen_of p h arrays fr.method fr.locals steps) refl
  operate_goes pos (Some e) same = go (is_ignored p e)
    where
      go : (b : Bool) → Next (if b then Stray e pos else take_chosen p h arrays choice fr.locals steps (Some e) (chosen_of p h arrays fr.method fr.locals steps))
      go true = tt
      go false = chosen_goes (Some e) same (chosen_of p h arrays fr.method fr.locals steps) refl

  by_first : (x : Option FirstAction) → standing (slice_get fr.control 0) ≡ x → Next (next_move p h arrays choice fr.method fr.locals steps x)
  unfolding next_move
  by_first None is = chosen_goes None (ap thrown_first is) (chosen_of p h arrays fr.method fr.locals steps) refl
  by_first (Some a) is = operate_goes a.pos (thrown_by_operation p h arrays fr.locals a.action) (ap thrown_first is)

  -- what the machine does next is one of these
  pub next_is : Next (next_move p h arrays choice fr.method fr.locals steps (standing (slice_get fr.control 0)))
  next_is = by_first (standing (slice_get fr.control 0)) refl
