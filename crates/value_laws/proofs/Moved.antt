-- What comes next in a frame, by the cases of the machine: which step it takes, what it throws, and what a call runs.
use Rattle.std.proofs.Common.{◌≡◌, ◌⊎◌, inl, inr, ap, refl, sym, subst, ◌∙◌, ℕ, zero, suc, ◌+◌, Bool, true, false, true≢false, cond, Option, Some, None, List, [], ◌∷◌, slice_get, find, map, option_map, if◌then◌else◌, add-one}
use Rattle.std.proofs.lemmas.Option.{slice_get-map}
use Rattle.program_model.specs.declared.kinds.BodyId.{BodyId}
use Rattle.program_model.specs.declared.kinds.ClassId.{ClassId}
use Rattle.program_model.specs.declared.kinds.MethodId.{MethodId}
use Rattle.program_model.specs.declared.program.Program.{Program}
use Rattle.program_model.specs.declared.tree.Body.{Body}
use Rattle.program_model.specs.Lookups.{body_at, method_at}
use Rattle.program_model.specs.SuperTests.{is_ignored}
use Rattle.rlc_base.specs.declared.place.Pos.{Pos}
use Rattle.java_control.specs.Calls.{called_method}
use Rattle.java_control.specs.Control.{Step, control_place, next_of, step_at, steps_in, ways}
use Rattle.java_control.specs.Exceptions.{action_ways, exceptions_of, throws}
use Rattle.java_control.specs.Remaining.{Todo, Do, Act, Way}
use Rattle.java_control.specs.Sources.{is_throws}
use Rattle.control_actions.specs.declared.action.Action.{Action}
use Rattle.control_actions.specs.declared.action.Action.TheVariants as actions
use Rattle.control_actions.specs.declared.action.Edge.{Edge}
use Rattle.control_actions.specs.declared.action.Edge.TheVariants as edges
use Rattle.control_actions.specs.declared.action.PlainValue.{PlainValue}
use Rattle.control_actions.specs.declared.action.PlainValue.TheVariants as plain
use Rattle.control_actions.specs.declared.action.TargetForm.TheVariants as forms
use Rattle.control_actions.specs.declared.place.Place.{Place}
use Rattle.stub_conduct.specs.declared.choice.Choice.{Choice}
use Rattle.stub_conduct.specs.declared.choice.Conduct.{Conduct}
use Rattle.stub_conduct.specs.declared.choice.Conduct.TheVariants as conducts
use Rattle.ledger_state.specs.Classes.{runtime_class}
use Rattle.ledger_state.specs.Contents.{HeapContents}
use Rattle.ledger_state.specs.declared.array.ArrayObject.{ArrayObject}
use Rattle.ledger_state.specs.declared.locals.Locals.{Locals}
use Rattle.ledger_steps.specs.Obligations.{is_library_method}
use Rattle.ledger_moves.specs.Operations.{thrown_by_operation}
use Rattle.ledger_steps.specs.LedgerCallsCalls.{body_of, form_of, has_null_target, is_stray_from, leaves_by, operand_of, overriding_by, position_of, running}
use Rattle.ledger_steps.specs.Conducts.{library_method, on_this, settled}
use Rattle.ledger_moves.specs.Choosing.{agrees, agrees_with, goes_by, operation_edge, same_edge}
use Rattle.ledger_moves.specs.declared.standing.FirstAction.{FirstAction}
use Rattle.ledger_moves.specs.Moves.{Move, Inner, Start, Library, End, Stray, Rest, by_class, by_edge, call, call_of, chosen_of, fits_target, has_body, inner_by, library_as, library_by, library_call, next_move, null_target, operate, program_call, standing, take, take_chosen, take_plain}
use Rattle.ledger_moves.specs.Moves.{Return, Back, StrayBack, NoWay, back_as, back_by, back_from, back_to, return_move}
use Rattle.frame_laws.specs.Agreement.{HasMadeClasses}
use Rattle.dispatch_laws.specs.PlainForms.{IsAnsweredBy, IsPlainAction, IsPlainCall, LibraryRunsFor, MayRun, by_name, may_be_made, run_by}
use Rattle.dispatch_laws.specs.PlainForms as plain_forms
use Rattle.frame_laws.specs.Calling.{may_call}
use Rattle.frame_laws.proofs.CallWays.{one_action}

-- an element that is found stands somewhere and passes the test
found_in : {X : Type 0} (test : X → Bool) (xs : List X) (x : X) → find test xs ≡ Some x → (i : ℕ) × (slice_get xs i ≡ Some x) × (test x ≡ true)
found_in test [] x is = absurd (let never : None ≡ Some x = is in cc)
found_in test (y ∷ ys) x is = go (test y) refl is (found_in test ys x)
  where
    go : (b : Bool) → test y ≡ b → cond b (Some y) (find test ys) ≡ Some x → (find test ys ≡ Some x → (i : ℕ) × (slice_get ys i ≡ Some x) × (test x ≡ true))
        → (i : ℕ) × (slice_get (y ∷ ys) i ≡ Some x) × (test x ≡ true)
    go true one same further = let here : y ≡ x = (let some : Some y ≡ Some x = same in cc) in (0, ap Some here, ap test (sym here) ∙ one)
    go false one same further = let rest = further same in (rest.0 + 1, rw add-one rest.1, rest.2)

-- ---- edges

pub throws_edge : (c : ClassId) (e : Edge) → same_edge (edges.Throws c) e ≡ true → is_throws e ≡ true
throws_edge c (edges.Throws d) is = refl
throws_edge c edges.Go is = absurd (true≢false (sym is))
throws_edge c e is = absurd (true≢false (sym is))

-- ---- the action that stands first is that of each step

abbrev AllTake : Action → List Way → Type 0
AllTake a [] = Unit {0}
AllTake a (w ∷ ws) = (w.action ≡ a) × AllTake a ws

nothing_at : {X : Type 0} (i : ℕ) (x : X) → slice_get [] i ≡ Some x → ⊥
nothing_at zero x is = let never : None ≡ Some x = is in cc
nothing_at (suc i) x is = let never : None ≡ Some x = is in cc

takes : (a : Action) (ws : List Way) (i : ℕ) (w : Way) → AllTake a ws → slice_get ws i ≡ Some w → w.action ≡ a
takes a [] i w all at = absurd (nothing_at i w at)
takes a (v ∷ ws) zero w all at = let same : v ≡ w = (let both : Some v ≡ Some w = at in cc) in ap (λ (x : Way). x.action) (sym same) ∙ all.0
takes a (v ∷ ws) (suc i) w all at = takes a ws i w all.1 at

all_throw : (a : Action) (pos : Pos) (k : List Todo) (cs : List ClassId) → AllTake a (map (throws a pos k) cs)
all_throw a pos k [] = tt
all_throw a pos k (c ∷ cs) = (refl, all_throw a pos k cs)

all_act : (p : Program) (a : Action) (pos : Pos) (k : List Todo) → AllTake a (action_ways p a pos k)
all_act p actions.Skip pos k = (refl, all_throw actions.Skip pos k (exceptions_of p actions.Skip))
all_act p (actions.Raise d c) pos k = all_throw (actions.Raise d c) pos k (exceptions_of p (actions.Raise d c))
all_act p a pos k = (refl, all_throw a pos k (exceptions_of p a))

way_of_step : (pos : Pos) (ws : List Way) (i : ℕ) (t : Step) → slice_get (map (step_at pos) ws) i ≡ Some t → (w : Way) × (slice_get ws i ≡ Some w) × (w.action ≡ t.action)
way_of_step pos ws i t at = go (slice_get ws i) refl (sym (slice_get-map (step_at pos) ws i) ∙ at)
  where
    go : (w : Option Way) → slice_get ws i ≡ w → option_map (step_at pos) w ≡ Some t → (w : Way) × (slice_get ws i ≡ Some w) × (w.action ≡ t.action)
    go None before same = absurd (let never : None ≡ Some t = same in cc)
    go (Some w) before same = (w, before, (let both : step_at pos w ≡ t = cc in ap (λ (s : Step). s.action) both))

no_action : (a : FirstAction) → ◌≡◌ {A = Option FirstAction} None (Some a) → ⊥
no_action a is = cc

stands_first : (p : Program) (b : Body) (control : List Todo) (a : FirstAction) (i : ℕ) (w : Way) → standing (slice_get control 0) ≡ Some a → slice_get (ways p b control) i ≡ Some w → w.action ≡ a.action
stands_first p b [] a i w first at = absurd (no_action a first)
stands_first p b (Act c pos ∷ k) a i w first at = takes c (action_ways p c pos k) i w (all_act p c pos k) at ∙ same
  where
    same : c ≡ a.action
    same = let both : Some (let z : FirstAction = record { action = c; pos = pos } in z) ≡ Some a = first in (let one : (let z : FirstAction = record { action = c; pos = pos } in z) ≡ a = cc in ap (λ (z : FirstAction). z.action) one)
stands_first p b (Do s d ∷ k) a i w first at = absurd (no_action a first)
stands_first p b (x ∷ k) a i w first at = absurd (no_action a first)

in_body : (p : Program) (body : Option Body) (control : List Todo) (a : FirstAction) (i : ℕ) (t : Step) → standing (slice_get control 0) ≡ Some a → slice_get (steps_in p body control) i ≡ Some t → t.action ≡ a.action
in_body p None control a i t first at = absurd (nothing_at i t at)
in_body p (Some b) control a i t first at =
    let w = way_of_step (control_place b control) (ways p b control) i t at in
    sym w.2 ∙ stands_first p b control a i w.0 first w.1

first_action : (p : Program) (n : BodyId) (control : List Todo) (a : FirstAction) (i : ℕ) (t : Step) → standing (slice_get control 0) ≡ Some a → slice_get (next_of p n control) i ≡ Some t → t.action ≡ a.action
unfolding next_of
first_action p n control a i t first at = in_body p (body_at p n) control a i t first at

-- ---- what comes next

-- the action sets no place to a value that stands there without it
abbrev pub IsNoPlain : Action → Type 0
IsNoPlain (actions.Plain x v) = ⊥
IsNoPlain a = Unit {0}

-- A step of the frame. Where it throws, it goes by the way of its exception; where it goes on, its operation throws none.
pub record IsInnerNext (p : Program) (h : HeapContents) (arrays : List ArrayObject) (m : MethodId) (l : Locals) (steps : List Step) (e : Option ClassId) (s : Step) : Type 0 where
  pub index : ℕ
  pub here : slice_get steps index ≡ Some s
  pub thrown : (e ≡ None) ⊎ ((is_throws s.edge ≡ true) × IsNoPlain s.action)
  pub agreeing : is_throws s.edge ≡ false → agrees p h arrays m l s ≡ true

-- a call begins a frame: by a step of the frame that stands at it
pub record IsCallNext (p : Program) (steps : List Step) (named runs : MethodId) (a : Action) : Type 0 where
  pub index : ℕ
  pub step : Step
  pub here : slice_get steps index ≡ Some step
  pub action : step.action ≡ a
  pub called : called_method a ≡ Some named
  pub may : MayRun p named runs
  pub body : has_body (body_of (method_at p runs)) ≡ true
  pub written : is_library_method p (method_at p runs) ≡ false
  pub new : (m : MethodId) (d n : ℕ) → a ≡ actions.New m d n → runs ≡ named

abbrev pub IsConstantRead : Action → MethodId → Type 0
IsConstantRead (actions.Plain x (plain.LibraryConstant m)) named = m ≡ named
IsConstantRead a named = ⊥

-- A call of the library, or a read of its constant: it does what the conduct says, which a choice gave, by the signature of this method, which is the named
-- one, or runs for it; and it goes by the way of an exception where it throws.
pub record IsLibraryNext (p : Program) (h : HeapContents) (arrays : List ArrayObject) (l : Locals) (steps : List Step) (named m : MethodId) (d : Conduct) (s : Step) : Type 0 where
  pub index : ℕ
  pub here : slice_get steps index ≡ Some s
  pub answers : IsAnsweredBy p named m
  pub row : (called_method s.action ≡ Some named) ⊎ IsConstantRead s.action named
  pub by : (choice : Choice) × (d ≡ on_this s.action (settled p h arrays m choice (position_of None l s.action)))
  pub thrown : ((e : ClassId) → d ≡ conducts.Throws e → ⊥) ⊎ (is_throws s.edge ≡ true)

abbrev pub IsNext : Program → HeapContents → List ArrayObject → MethodId → Locals → List Step → Move → Type 0
IsNext p h arrays m l steps (Inner e s) = IsInnerNext p h arrays m l steps e s
IsNext p h arrays m l steps (Start named runs a pos) = IsCallNext p steps named runs a
IsNext p h arrays m l steps (Library named k d s) = IsLibraryNext p h arrays l steps named k d s
IsNext p h arrays m l steps (End pos q) = (i : ℕ) × (s : Step) × (slice_get steps i ≡ Some s) × (s.action ≡ actions.End q)
IsNext p h arrays m l steps (Stray e pos) = Unit {0}
IsNext p h arrays m l steps Rest = Unit {0}

pub call_may : (a : Action) (named : MethodId) → called_method a ≡ Some named → may_call a ≡ true
call_may actions.Skip named is = absurd (let never : None ≡ Some named = is in cc)
call_may (actions.Call m d n form) named is = refl
call_may (actions.New m d n) named is = refl
call_may (actions.Super m d n) named is = refl
call_may a named is = absurd (let never : None ≡ Some named = is in cc)

call_sets_nothing : (a : Action) (named : MethodId) → called_method a ≡ Some named → IsNoPlain a
call_sets_nothing actions.Skip named is = tt
call_sets_nothing (actions.Plain x v) named is = absurd (let never : None ≡ Some named = is in cc)
call_sets_nothing a named is = tt

read_may : (a : Action) (named : MethodId) → IsConstantRead a named → may_call a ≡ true
read_may actions.Skip named is = absurd is
read_may (actions.Plain x (plain.LibraryConstant m)) named is = refl
read_may (actions.Plain x (plain.Literal z)) named is = absurd is
read_may (actions.Plain x v) named is = absurd is
read_may a named is = absurd is

pub plain_call : (p : Program) (a : Action) (named : MethodId) → IsPlainAction p a → called_method a ≡ Some named → IsPlainCall p named
plain_call p actions.Skip named form is = absurd (let never : None ≡ Some named = is in cc)
plain_call p (actions.Call m d n f) named form is = subst (IsPlainCall p) (let same : m ≡ named = (let both : Some m ≡ Some named = is in cc) in same) form
plain_call p (actions.New m d n) named form is = subst (IsPlainCall p) (let same : m ≡ named = (let both : Some m ≡ Some named = is in cc) in same) form
plain_call p (actions.Super m d n) named form is = subst (IsPlainCall p) (let same : m ≡ named = (let both : Some m ≡ Some named = is in cc) in same) form.0
plain_call p a named form is = absurd (let never : None ≡ Some named = is in cc)

module _ (p : Program) (n : BodyId) (control : List Todo) (plains : (i : ℕ) (s : Step) → slice_get (next_of p n control) i ≡ Some s → IsPlainAction p s.action)
    (h : HeapContents) (arrays : List ArrayObject) (choice : Choice) (m : MethodId) (l : Locals) (made : HasMadeClasses p h) where
  abbrev steps : List Step
  steps = next_of p n control

  abbrev Next : Move → Type 0
  Next mv = IsNext p h arrays m l steps mv

  module _ (e : Option ClassId) (i : ℕ) (s : Step) (here : slice_get steps i ≡ Some s) (agreeing : agrees p h arrays m l s ≡ true)
      (thrown : (e ≡ None) ⊎ ((is_throws s.edge ≡ true) × IsNoPlain s.action)) where
    -- the other steps of a call are steps of the call
    one_call : may_call s.action ≡ true → (t : Step) (j : ℕ) → slice_get steps j ≡ Some t → t.action ≡ s.action
    one_call calls t j there = one_action p n control i j s t here there calls

    inner_here : Next (Inner e s)
    inner_here = record { index = i; here = here; thrown = thrown; agreeing = λ goes. agreeing }

    inner_goes : Next (Inner None s)
    inner_goes = record { index = i; here = here; thrown = inl refl; agreeing = λ goes. agreeing }

    abbrev IsRow : Action → MethodId → Type 0
    IsRow a named = (called_method a ≡ Some named) ⊎ IsConstantRead a named

    abbrev IsBy : Action → MethodId → Conduct → Type 0
    IsBy a named d = (c : Choice) × (d ≡ on_this a (settled p h arrays named c (position_of None l a)))

    module _ (named k : MethodId) (calls : may_call s.action ≡ true) (answers : IsAnsweredBy p named k) (row : IsRow s.action named) where
      library_there : (d : Conduct) → IsBy s.action k d → (j : ℕ) (t : Step) → slice_get steps j ≡ Some t → ((c : ClassId) → d ≡ conducts.Throws c → ⊥) ⊎ (is_throws t.edge ≡ true) → Next (Library named k d t)
      library_there d by j t there goes =
          let same = one_call calls t j there in
          record {
            index = j;
            here = there;
            answers = answers;
            row = subst (λ (a : Action). IsRow a named) (sym same) row;
            by = subst (λ (a : Action). IsBy a k d) (sym same) by;
            thrown = goes;
          }

      library_on : (d : Conduct) → IsBy s.action k d → ((c : ClassId) → d ≡ conducts.Throws c → ⊥) → (t : Option Step) → by_edge edges.Go steps ≡ t → Next (library_by named k d t)
      library_on d by normal None is = tt
      library_on d by normal (Some t) is = let found = found_in (goes_by edges.Go) steps t is in library_there d by found.0 t found.1 (inl normal)

      library_thrown : (d : Conduct) → IsBy s.action k d → (c : Option ClassId) (t : Option Step) → by_class c steps ≡ t → Next (library_by named k d t)
      library_thrown d by c None is = tt
      library_thrown d by None (Some t) is = absurd (let never : None ≡ Some t = is in cc)
      library_thrown d by (Some c) (Some t) is = let found = found_in (goes_by (edges.Throws c)) steps t is in library_there d by found.0 t found.1 (inr (throws_edge c t.edge found.2))

      library_goes : (pos : Pos) (d : Conduct) → IsBy s.action k d → Next (library_as p steps pos named k d)
      unfolding library_as
      library_goes pos (conducts.Throws c) by = go (is_stray_from p (method_at p named) c)
        where
          go : (b : Bool) → Next (if b then Stray c pos else library_by named k (conducts.Throws c) (by_class (leaves_by p (method_at p named) c) steps))
          go true = tt
          go false = library_thrown (conducts.Throws c) by (leaves_by p (method_at p named) c) _ refl
      library_goes pos (conducts.Fresh c) by = library_on (conducts.Fresh c) by (λ x is. (let never : conducts.Fresh c ≡ conducts.Throws x = is in cc)) _ refl
      library_goes pos conducts.Null by = library_on conducts.Null by (λ x is. (let never : conducts.Null ≡ conducts.Throws x = is in cc)) _ refl
      library_goes pos (conducts.Existing j) by = library_on (conducts.Existing j) by (λ x is. (let never : conducts.Existing j ≡ conducts.Throws x = is in cc)) _ refl
      library_goes pos conducts.Argument by = library_on conducts.Argument by (λ x is. (let never : conducts.Argument ≡ conducts.Throws x = is in cc)) _ refl
      library_goes pos (conducts.Value z) by = library_on (conducts.Value z) by (λ x is. (let never : conducts.Value z ≡ conducts.Throws x = is in cc)) _ refl
      library_goes pos conducts.Nothing by = library_on conducts.Nothing by (λ x is. (let never : conducts.Nothing ≡ conducts.Throws x = is in cc)) _ refl

      library_called : Next (library_call p h arrays choice l steps s.action s.pos named k)
      unfolding library_call
      library_called = library_goes s.pos (on_this s.action (settled p h arrays k choice (position_of None l s.action))) (choice, refl)

    -- the method that runs may run at a call that names the other
    may_by_class : (named : MethodId) (c : Option ClassId) → ((k : ClassId) → c ≡ Some k → may_be_made p k ≡ true) → MayRun p named (overriding_by p named c)
    unfolding run_by
    may_by_class named None of_made = by_name
    may_by_class named (Some c) of_made = plain_forms.by_class c (of_made c refl)

    may_run : (a : Action) (named : MethodId) → MayRun p named (running p h l a named)
    may_run actions.Skip named = by_name
    may_run (actions.Call k d n forms.Static) named = by_name
    may_run (actions.Call k d n forms.Super) named = by_name
    may_run (actions.Call k d n forms.Other) named = may_by_class named (runtime_class p h (operand_of l (actions.Call k d n forms.Other) 0)) (made (operand_of l (actions.Call k d n forms.Other) 0))
    may_run (actions.Call k d n forms.This) named = may_by_class named (runtime_class p h (operand_of l (actions.Call k d n forms.This) 0)) (made (operand_of l (actions.Call k d n forms.This) 0))
    may_run (actions.New k d n) named = by_name
    may_run (actions.Super k d n) named = by_name
    may_run a named = by_name

    null_next : (named : MethodId) → called_method s.action ≡ Some named → (t : Option Step) (c : Option ClassId) → by_class c steps ≡ t → Next (inner_by (Some p.core.null_pointer_exception) t)
    null_next named called None c is = tt
    null_next named called (Some t) None is = absurd (let never : None ≡ Some t = is in cc)
    null_next named called (Some t) (Some c) is =
        let found = found_in (goes_by (edges.Throws c)) steps t is in
        let by_throw = throws_edge c t.edge found.2 in
        let same = one_call (call_may s.action named called) t found.0 found.1 in
        record {
          index = found.0;
          here = found.1;
          thrown = inr (by_throw, call_sets_nothing t.action named (ap called_method same ∙ called));
          agreeing = λ goes. absurd (true≢false (sym by_throw ∙ goes));
        }

    null_goes : (pos : Pos) (named : MethodId) → called_method s.action ≡ Some named → Next (null_target p steps pos named)
    unfolding null_target
    null_goes pos named called = go (is_ignored p p.core.null_pointer_exception)
      where
        go : (b : Bool) → Next (if b then Stray p.core.null_pointer_exception pos else inner_by (Some p.core.null_pointer_exception) (by_class (leaves_by p (method_at p named) p.core.null_pointer_exception) steps))
        go true = tt
        go false = null_next named called _ (leaves_by p (method_at p named) p.core.null_pointer_exception) refl

    module _ (named : MethodId) (called : called_method s.action ≡ Some named) (form : IsPlainCall p named) where
      -- a `new` runs the constructor that it names
      abbrev RunsAsNew : MethodId → Type 0
      RunsAsNew runs = (m : MethodId) (d n : ℕ) → s.action ≡ actions.New m d n → runs ≡ named

      started : (pos : Pos) (runs : MethodId) → MayRun p named runs → RunsAsNew runs → is_library_method p (method_at p runs) ≡ false → Next (program_call p s.action pos named runs)
      started pos runs may new written = go (has_body (body_of (method_at p runs))) refl
        where
          go : (b : Bool) → has_body (body_of (method_at p runs)) ≡ b → Next (if b then Start named runs s.action pos else Rest)
          go true has = record { index = i; step = s; here = here; action = refl; called = called; may = may; body = has; written = written; new = new }
          go false has = tt

      call_of_by : (runs : MethodId) → MayRun p named runs → RunsAsNew runs → Next (call_of p h arrays choice l steps s.action s.pos named runs)
      unfolding call_of
      call_of_by runs may new = go (is_library_method p (method_at p runs)) refl
        where
          go : (b : Bool) → is_library_method p (method_at p runs) ≡ b
              → Next (if b then library_call p h arrays choice l steps s.action s.pos named (library_method p named runs) else program_call p s.action s.pos named runs)
          go true lib = by (is_library_method p (method_at p named)) refl
            where
              its : is_library_method p (method_at p named) ≡ false → LibraryRunsFor p named runs
              its declared = elim (form.library runs may lib) [ inl same ↦ absurd (true≢false (sym same ∙ declared)) | inr other ↦ other ]

              by : (b : Bool) → is_library_method p (method_at p named) ≡ b → Next (library_call p h arrays choice l steps s.action s.pos named (if b then named else runs))
              by true declared = library_called named named (call_may s.action named called) (inl refl) (inl called)
              by false declared = library_called named runs (call_may s.action named called) (inr (its declared)) (inl called)
          go false other = started s.pos runs may new other

      call_goes : Next (call p h arrays choice l steps s.action s.pos named)
      unfolding call
      call_goes = go (has_null_target l s.action)
        where
          fitting : (b : Bool) → Next (if b then call_of p h arrays choice l steps s.action s.pos named (running p h l s.action named) else Rest)
          fitting true = call_of_by (running p h l s.action named) (may_run s.action named) (λ m d n is. ap (λ (b : Action). running p h l b named) is)
          fitting false = tt

          go : (b : Bool)
              → Next (if b then null_target p steps s.pos named
              else (if fits_target p h arrays (method_at p named) (form_of s.action) (operand_of l s.action 0) then call_of p h arrays choice l steps s.action s.pos named (running p h l s.action named) else Rest))
          go true = null_goes s.pos named called
          go false = fitting (fits_target p h arrays (method_at p named) (form_of s.action) (operand_of l s.action 0))

    form : IsPlainAction p s.action
    form = plains i s here

    called_goes : (named : MethodId) → called_method s.action ≡ Some named → Next (call p h arrays choice l steps s.action s.pos named)
    called_goes named called = call_goes named called (plain_call p s.action named form called)

    plain_goes : (x : Place) (v : PlainValue) → s.action ≡ actions.Plain x v → Next (take_plain p h arrays choice l steps s v)
    unfolding take_plain
    plain_goes x (plain.LibraryConstant k) is =
        let reads : IsConstantRead s.action k = subst (λ (a : Action). IsConstantRead a k) (sym is) refl in
        library_called k k (read_may s.action k reads) (inl refl) (inr reads)
    plain_goes x (plain.Literal z) is = inner_goes
    plain_goes x (plain.Default t) is = inner_goes
    plain_goes x (plain.StaticField f) is = inner_goes

    take_goes : (a : Action) → s.action ≡ a → Next (take p h arrays choice l steps e s a)
    unfolding take
    take_goes actions.Skip is = inner_here
    take_goes (actions.Call k d n f) is = called_goes k (ap called_method is)
    take_goes (actions.New k d n) is = called_goes k (ap called_method is)
    take_goes (actions.Super k d n) is = called_goes k (ap called_method is)
    take_goes (actions.Plain x v) is = plain_goes x v is
    take_goes (actions.End q) is = (i, s, here, is)
    take_goes a is = inner_here

  chosen_goes : (e : Option ClassId) → ((i : ℕ) (s : Step) → slice_get steps i ≡ Some s → agrees p h arrays m l s ≡ true → (e ≡ None) ⊎ ((is_throws s.edge ≡ true) × IsNoPlain s.action))
      → (t : Option Step) → chosen_of p h arrays m l steps ≡ t → Next (take_chosen p h arrays choice l steps e t)
  chosen_goes e thrown None is = tt
  chosen_goes e thrown (Some s) is =
      let found = found_in (agrees p h arrays m l) steps s is in
      take_goes e found.0 s found.1 found.2 (thrown found.0 s found.1 found.2) s.action refl

  -- an operation that throws goes by the way of its exception
  by_throw : (a : Action) (c : ClassId) (f : Edge) → thrown_by_operation p h arrays l a ≡ Some c → agrees_with p h arrays m l a f ≡ true → is_throws f ≡ true
  by_throw (actions.Test d) c f is agreeing = absurd (let never : None ≡ Some c = is in cc)
  by_throw (actions.Enter clause x d k) c f is agreeing = absurd (let never : None ≡ Some c = is in cc)
  by_throw actions.Skip c f is agreeing = absurd (let never : None ≡ Some c = is in cc)
  by_throw a c f is agreeing = throws_edge c f (sym (ap (λ (o : Option ClassId). same_edge (operation_edge a o) f) is) ∙ agreeing)

  throw_sets_nothing : (a : Action) (c : ClassId) → thrown_by_operation p h arrays l a ≡ Some c → IsNoPlain a
  throw_sets_nothing (actions.Plain x v) c is = absurd (let never : None ≡ Some c = is in cc)
  throw_sets_nothing actions.Skip c is = tt
  throw_sets_nothing a c is = tt

  operate_goes : (a : FirstAction) → standing (slice_get control 0) ≡ Some a → (c : Option ClassId) → thrown_by_operation p h arrays l a.action ≡ c → Next (operate p h arrays choice m l steps a.pos c)
  unfolding operate
  operate_goes a first None is = chosen_goes None (λ i s here agreeing. inl refl) (chosen_of p h arrays m l steps) refl
  operate_goes a first (Some c) is = go (is_ignored p c)
    where
      thrown : (i : ℕ) (s : Step) → slice_get steps i ≡ Some s → agrees p h arrays m l s ≡ true → (Some c ≡ None) ⊎ ((is_throws s.edge ≡ true) × IsNoPlain s.action)
      thrown i s here agreeing =
          let throws' : thrown_by_operation p h arrays l s.action ≡ Some c = ap (thrown_by_operation p h arrays l) (first_action p n control a i s first here) ∙ is in
          inr (by_throw s.action c s.edge throws' agreeing, throw_sets_nothing s.action c throws')

      go : (b : Bool) → Next (if b then Stray c a.pos else take_chosen p h arrays choice l steps (Some c) (chosen_of p h arrays m l steps))
      go true = tt
      go false = chosen_goes (Some c) thrown (chosen_of p h arrays m l steps) refl

  next_by : (x : Option FirstAction) → standing (slice_get control 0) ≡ x → Next (next_move p h arrays choice m l steps x)
  unfolding next_move
  next_by None first = chosen_goes None (λ i s here agreeing. inl refl) (chosen_of p h arrays m l steps) refl
  next_by (Some a) first = operate_goes a first (thrown_by_operation p h arrays l a.action) refl

  pub next_is : Next (next_move p h arrays choice m l steps (standing (slice_get control 0)))
  next_is = next_by (standing (slice_get control 0)) refl

-- ---- returns

-- the frame that waits takes a step of its call: by the way of an exception where the frame above has ended by one
pub record IsBackStep (steps : List Step) (e : Option ClassId) (named : MethodId) (t : Step) : Type 0 where
  pub index : ℕ
  pub here : slice_get steps index ≡ Some t
  pub called : called_method t.action ≡ Some named
  pub thrown : (e ≡ None) ⊎ (is_throws t.edge ≡ true)

-- how it goes on where the frame above has ended by an exception of this class, or by none
abbrev pub IsBack : List Step → Option ClassId → Return → Type 0
IsBack all e (Back c named t) = (c ≡ e) × IsBackStep all c named t
IsBack all e (StrayBack c pos) = Unit {0}
IsBack all e NoWay = Unit {0}

module _ (p : Program) (n : BodyId) (control : List Todo) where
  abbrev waiting : List Step
  waiting = next_of p n control

  module _ (u : Step) (first : slice_get waiting 0 ≡ Some u) (named : MethodId) (called : called_method u.action ≡ Some named) where
    back_there : (e : Option ClassId) (j : ℕ) (t : Step) → slice_get waiting j ≡ Some t → (e ≡ None) ⊎ (is_throws t.edge ≡ true) → IsBack waiting e (Back e named t)
    back_there e j t there thrown = (
      refl,
      record {
        index = j;
        here = there;
        called = ap called_method (one_action p n control 0 j u t first there (call_may u.action named called)) ∙ called;
        thrown = thrown;
      },
    )

    back_on : (t : Option Step) → by_edge edges.Go waiting ≡ t → IsBack waiting None (back_by None named t)
    back_on None is = tt
    back_on (Some t) is = let found = found_in (goes_by edges.Go) waiting t is in back_there None found.0 t found.1 (inl refl)

    back_thrown : (e : ClassId) (c : Option ClassId) (t : Option Step) → by_class c waiting ≡ t → IsBack waiting (Some e) (back_by (Some e) named t)
    back_thrown e c None is = tt
    back_thrown e None (Some t) is = absurd (let never : None ≡ Some t = is in cc)
    back_thrown e (Some c) (Some t) is = let found = found_in (goes_by (edges.Throws c)) waiting t is in back_there (Some e) found.0 t found.1 (inr (throws_edge c t.edge found.2))

    as_goes : (pos : Pos) (e : Option ClassId) → IsBack waiting e (back_as p waiting pos named e)
    unfolding back_as
    as_goes pos None = back_on _ refl
    as_goes pos (Some e) = go (is_stray_from p (method_at p named) e)
      where
        go : (b : Bool) → IsBack waiting (Some e) (if b then StrayBack e pos else back_by (Some e) named (by_class (leaves_by p (method_at p named) e) waiting))
        go true = tt
        go false = back_thrown e (leaves_by p (method_at p named) e) _ refl

  to_goes : (u : Step) → slice_get waiting 0 ≡ Some u → (e : Option ClassId) (named : Option MethodId) → called_method u.action ≡ named → IsBack waiting e (back_to p waiting u.pos e named)
  unfolding back_to
  to_goes u first e None called = tt
  to_goes u first e (Some named) called = as_goes u first named called u.pos e

  from_goes : (e : Option ClassId) (t : Option Step) → slice_get waiting 0 ≡ t → IsBack waiting e (back_from p waiting e t)
  from_goes e None first = tt
  from_goes e (Some u) first = to_goes u first e (called_method u.action) refl

  pub back_is : (e : Option ClassId) → IsBack waiting e (return_move p waiting e)
  unfolding return_move
  back_is e = from_goes e (slice_get waiting 0) refl
