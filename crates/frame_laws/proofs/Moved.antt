-- What comes next in a frame, by the cases of the machine: a step of the frame, or a call by one of its steps.
use Rattle.std.proofs.Common.{◌≡◌, ap, refl, ℕ, ◌+◌, Bool, true, false, cond, Option, Some, None, List, [], ◌∷◌, slice_get, find, if◌then◌else◌, add-one}
use Rattle.program_model.specs.declared.kinds.ClassId.{ClassId}
use Rattle.program_model.specs.declared.kinds.MethodId.{MethodId}
use Rattle.program_model.specs.declared.program.Program.{Program}
use Rattle.program_model.specs.Lookups.{method_at}
use Rattle.program_model.specs.SuperTests.{is_ignored}
use Rattle.rlc_base.specs.declared.place.Pos.{Pos}
use Rattle.java_control.specs.Calls.{called_method}
use Rattle.java_control.specs.Control.{Step}
use Rattle.control_actions.specs.declared.action.Action.{Action}
use Rattle.control_actions.specs.declared.action.Action.TheVariants as actions
use Rattle.control_actions.specs.declared.action.Edge.{Edge}
use Rattle.control_actions.specs.declared.action.Edge.TheVariants as edges
use Rattle.control_actions.specs.declared.action.PlainValue.{PlainValue}
use Rattle.control_actions.specs.declared.action.PlainValue.TheVariants as plain
use Rattle.stub_conduct.specs.declared.choice.Choice.{Choice}
use Rattle.stub_conduct.specs.declared.choice.Conduct.{Conduct}
use Rattle.stub_conduct.specs.declared.choice.Conduct.TheVariants as conducts
use Rattle.ledger_state.specs.Contents.{HeapContents}
use Rattle.ledger_state.specs.declared.array.ArrayObject.{ArrayObject}
use Rattle.ledger_state.specs.declared.locals.Locals.{Locals}
use Rattle.ledger_steps.specs.Obligations.{is_library_method}
use Rattle.ledger_moves.specs.Operations.{thrown_by_operation}
use Rattle.ledger_steps.specs.LedgerCallsCalls.{body_of, form_of, has_null_target, is_stray_from, leaves_by, operand_of, position_of, running}
use Rattle.ledger_steps.specs.Conducts.{library_method, on_this, settled}
use Rattle.ledger_moves.specs.Choosing.{agrees, goes_by}
use Rattle.ledger_moves.specs.declared.standing.FirstAction.{FirstAction}
use Rattle.ledger_moves.specs.Moves.{Move, Inner, Start, Library, End, Stray, Rest, by_class, by_edge, call, call_of, chosen_of, fits_target, has_body, inner_by, library_as, library_by, library_call, next_move, null_target, operate, program_call, take, take_chosen, take_plain}
use Rattle.ledger_moves.specs.Moves.{Return, Back, StrayBack, NoWay, back_as, back_by, back_from, back_to, return_move}

-- an element that is found stands somewhere
found_in : {X : Type 0} (test : X → Bool) (xs : List X) (x : X) → find test xs ≡ Some x → (i : ℕ) × (slice_get xs i ≡ Some x)
found_in test [] x is = absurd (let never : None ≡ Some x = is in cc)
found_in test (y ∷ ys) x is = go (test y) is (found_in test ys x)
  where
    go : (b : Bool) → cond b (Some y) (find test ys) ≡ Some x → (find test ys ≡ Some x → (i : ℕ) × (slice_get ys i ≡ Some x)) → (i : ℕ) × (slice_get (y ∷ ys) i ≡ Some x)
    go true same further = (0, same)
    go false same further = let rest = further same in (rest.0 + 1, rw add-one rest.1)

abbrev pub Stands : List Step → Step → Type 0
Stands steps s = (i : ℕ) × (slice_get steps i ≡ Some s)

-- a call begins a frame: by a step of the frame that stands at it, with a target that is there
pub record IsCallNext (p : Program) (h : HeapContents) (l : Locals) (steps : List Step) (named runs : MethodId) (a : Action) : Type 0 where
  pub index : ℕ
  pub step : Step
  pub here : slice_get steps index ≡ Some step
  pub action : step.action ≡ a
  pub called : called_method a ≡ Some named
  pub target : has_null_target l a ≡ false
  pub selected : runs ≡ running p h l a named
  pub body : has_body (body_of (method_at p runs)) ≡ true

abbrev pub IsNext : Program → HeapContents → Locals → List Step → Move → Type 0
IsNext p h l steps (Inner e s) = Stands steps s
IsNext p h l steps (Start named runs a pos) = IsCallNext p h l steps named runs a
IsNext p h l steps (Library named m d s) = Stands steps s
IsNext p h l steps (End pos q) = Unit {0}
IsNext p h l steps (Stray e pos) = Unit {0}
IsNext p h l steps Rest = Unit {0}

module _ (p : Program) (h : HeapContents) (arrays : List ArrayObject) (choice : Choice) (m : MethodId) (l : Locals) (steps : List Step) where
  abbrev Next : Move → Type 0
  Next mv = IsNext p h l steps mv

  inner_next : (e : Option ClassId) (f : Edge) (t : Option Step) → by_edge f steps ≡ t → Next (inner_by e t)
  inner_next e f None is = tt
  inner_next e f (Some t) is = found_in (goes_by f) steps t is

  library_next : (named k : MethodId) (d : Conduct) (f : Edge) (t : Option Step) → by_edge f steps ≡ t → Next (library_by named k d t)
  library_next named k d f None is = tt
  library_next named k d f (Some t) is = found_in (goes_by f) steps t is

  class_inner : (e c : Option ClassId) → Next (inner_by e (by_class c steps))
  class_inner e None = tt
  class_inner e (Some c) = inner_next e (edges.Throws c) _ refl

  class_library : (named k : MethodId) (d : Conduct) (c : Option ClassId) → Next (library_by named k d (by_class c steps))
  class_library named k d None = tt
  class_library named k d (Some c) = library_next named k d (edges.Throws c) _ refl

  library_goes : (pos : Pos) (named k : MethodId) (d : Conduct) → Next (library_as p steps pos named k d)
  unfolding library_as
  library_goes pos named k (conducts.Throws c) = go (is_stray_from p (method_at p named) c)
    where
      go : (b : Bool) → Next (if b then Stray c pos else library_by named k (conducts.Throws c) (by_class (leaves_by p (method_at p named) c) steps))
      go true = tt
      go false = class_library named k (conducts.Throws c) (leaves_by p (method_at p named) c)
  library_goes pos named k d = library_next named k d edges.Go _ refl

  library_called : (a : Action) (pos : Pos) (named k : MethodId) → Next (library_call p h arrays choice l steps a pos named k)
  unfolding library_call
  library_called a pos named k = library_goes pos named k (on_this a (settled p h arrays k choice (position_of None l a)))

  null_goes : (pos : Pos) (named : MethodId) → Next (null_target p steps pos named)
  unfolding null_target
  null_goes pos named = go (is_ignored p p.core.null_pointer_exception)
    where
      go : (b : Bool)
          → Next (if b then Stray p.core.null_pointer_exception pos else inner_by (Some p.core.null_pointer_exception) (by_class (leaves_by p (method_at p named) p.core.null_pointer_exception) steps))
      go true = tt
      go false = class_inner (Some p.core.null_pointer_exception) (leaves_by p (method_at p named) p.core.null_pointer_exception)

  module _ (i : ℕ) (s : Step) (here : slice_get steps i ≡ Some s) where
    program_goes : (named runs : MethodId) → called_method s.action ≡ Some named → has_null_target l s.action ≡ false → runs ≡ running p h l s.action named
        → Next (program_call p s.action s.pos named runs)
    program_goes named runs called target same = go (has_body (body_of (method_at p runs))) refl
      where
        go : (b : Bool) → has_body (body_of (method_at p runs)) ≡ b → Next (if b then Start named runs s.action s.pos else Rest)
        go true has = record { index = i; step = s; here = here; action = refl; called = called; target = target; selected = same; body = has }
        go false has = tt

    call_of_goes : (named runs : MethodId) → called_method s.action ≡ Some named → has_null_target l s.action ≡ false → runs ≡ running p h l s.action named
        → Next (call_of p h arrays choice l steps s.action s.pos named runs)
    unfolding call_of
    call_of_goes named runs called target same = go (is_library_method p (method_at p runs))
      where
        go : (b : Bool) → Next (if b then library_call p h arrays choice l steps s.action s.pos named (library_method p named runs) else program_call p s.action s.pos named runs)
        go true = library_called s.action s.pos named (library_method p named runs)
        go false = program_goes named runs called target same

    call_goes : (named : MethodId) → called_method s.action ≡ Some named → Next (call p h arrays choice l steps s.action s.pos named)
    unfolding call
    call_goes named called = go (has_null_target l s.action) refl
      where
        fitting : (b : Bool) → has_null_target l s.action ≡ false → Next (if b then call_of p h arrays choice l steps s.action s.pos named (running p h l s.action named) else Rest)
        fitting true target = call_of_goes named (running p h l s.action named) called target refl
        fitting false target = tt

        go : (b : Bool) → has_null_target l s.action ≡ b
            → Next (if b then null_target p steps s.pos named
            else (if fits_target p h arrays (method_at p named) (form_of s.action) (operand_of l s.action 0) then call_of p h arrays choice l steps s.action s.pos named (running p h l s.action named) else Rest))
        go true null = null_goes s.pos named
        go false target = fitting (fits_target p h arrays (method_at p named) (form_of s.action) (operand_of l s.action 0)) target

    plain_goes : (v : PlainValue) → Next (take_plain p h arrays choice l steps s v)
    unfolding take_plain
    plain_goes (plain.LibraryConstant k) = library_called s.action s.pos k k
    plain_goes (plain.Literal x) = (i, here)
    plain_goes (plain.Default t) = (i, here)
    plain_goes (plain.StaticField f) = (i, here)

    take_goes : (e : Option ClassId) (a : Action) → s.action ≡ a → Next (take p h arrays choice l steps e s a)
    unfolding take
    take_goes e actions.Skip is = (i, here)
    take_goes e (actions.Call k d n form) is = call_goes k (ap called_method is)
    take_goes e (actions.New k d n) is = call_goes k (ap called_method is)
    take_goes e (actions.Super k d n) is = call_goes k (ap called_method is)
    take_goes e (actions.Plain x v) is = plain_goes v
    take_goes e (actions.End q) is = tt
    take_goes e a is = (i, here)

  chosen_goes : (e : Option ClassId) (t : Option Step) → chosen_of p h arrays m l steps ≡ t → Next (take_chosen p h arrays choice l steps e t)
  chosen_goes e None is = tt
  chosen_goes e (Some s) is = let found = found_in (agrees p h arrays m l) steps s is in take_goes found.0 s found.1 e s.action refl

  operate_goes : (pos : Pos) (e : Option ClassId) → Next (operate p h arrays choice m l steps pos e)
  unfolding operate
  operate_goes pos None = chosen_goes None (chosen_of p h arrays m l steps) refl
  operate_goes pos (Some e) = go (is_ignored p e)
    where
      go : (b : Bool) → Next (if b then Stray e pos else take_chosen p h arrays choice l steps (Some e) (chosen_of p h arrays m l steps))
      go true = tt
      go false = chosen_goes (Some e) (chosen_of p h arrays m l steps) refl

  pub next_is : (x : Option FirstAction) → Next (next_move p h arrays choice m l steps x)
  unfolding next_move
  next_is None = chosen_goes None (chosen_of p h arrays m l steps) refl
  next_is (Some a) = operate_goes a.pos (thrown_by_operation p h arrays l a.action)

-- ---- returns

abbrev pub IsBack : List Step → Return → Type 0
IsBack steps (Back e named t) = Stands steps t
IsBack steps (StrayBack e pos) = Unit {0}
IsBack steps NoWay = Unit {0}

module _ (p : Program) (steps : List Step) where
  by_goes : (e : Option ClassId) (named : MethodId) (f : Edge) (t : Option Step) → by_edge f steps ≡ t → IsBack steps (back_by e named t)
  by_goes e named f None is = tt
  by_goes e named f (Some t) is = found_in (goes_by f) steps t is

  by_class_goes : (e : Option ClassId) (named : MethodId) (c : Option ClassId) → IsBack steps (back_by e named (by_class c steps))
  by_class_goes e named None = tt
  by_class_goes e named (Some c) = by_goes e named (edges.Throws c) _ refl

  as_goes : (pos : Pos) (named : MethodId) (e : Option ClassId) → IsBack steps (back_as p steps pos named e)
  unfolding back_as
  as_goes pos named None = by_goes None named edges.Go _ refl
  as_goes pos named (Some e) = go (is_stray_from p (method_at p named) e)
    where
      go : (b : Bool) → IsBack steps (if b then StrayBack e pos else back_by (Some e) named (by_class (leaves_by p (method_at p named) e) steps))
      go true = tt
      go false = by_class_goes (Some e) named (leaves_by p (method_at p named) e)

  to_goes : (pos : Pos) (e : Option ClassId) (named : Option MethodId) → IsBack steps (back_to p steps pos e named)
  unfolding back_to
  to_goes pos e None = tt
  to_goes pos e (Some named) = as_goes pos named e

  from_goes : (e : Option ClassId) (t : Option Step) → IsBack steps (back_from p steps e t)
  from_goes e None = tt
  from_goes e (Some t) = to_goes t.pos e (called_method t.action)

  pub back_is : (e : Option ClassId) → IsBack steps (return_move p steps e)
  unfolding return_move
  back_is e = from_goes e (slice_get steps 0)
