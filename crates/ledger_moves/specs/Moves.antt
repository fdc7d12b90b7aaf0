-- What comes next: the top frame takes the step of the control relation that its values choose.
use Rattle.std.specs.Prelude.{Bool, true, false, Option, Some, None, List, slice_get, if◌then◌else◌}
use Rattle.std.specs.List.{find}
use Rattle.program_model.specs.declared.kinds.BodyId.{BodyId}
use Rattle.program_model.specs.declared.kinds.ClassId.{ClassId}
use Rattle.program_model.specs.declared.kinds.MethodId.{MethodId}
use Rattle.program_model.specs.declared.kinds.VType.TheVariants as types
use Rattle.program_model.specs.declared.program.Method.{Method}
use Rattle.program_model.specs.declared.program.Program.{Program}
use Rattle.program_model.specs.Lookups.{method_at}
use Rattle.program_model.specs.SuperTests.{is_ignored}
use Rattle.rlc_base.specs.declared.place.Pos.{Pos}
use Rattle.control_actions.specs.declared.action.Action.{Action}
use Rattle.control_actions.specs.declared.action.Action.TheVariants as actions
use Rattle.control_actions.specs.declared.action.Completion.{Completion}
use Rattle.control_actions.specs.declared.action.Edge.{Edge}
use Rattle.control_actions.specs.declared.action.Edge.TheVariants as edges
use Rattle.control_actions.specs.declared.action.PlainValue.{PlainValue}
use Rattle.control_actions.specs.declared.action.TargetForm.{TargetForm}
use Rattle.control_actions.specs.declared.action.TargetForm.TheVariants as forms
use Rattle.control_actions.specs.declared.action.PlainValue.TheVariants as plain
use Rattle.java_control.specs.Calls.{called_method}
use Rattle.java_control.specs.Control.{Step}
use Rattle.java_control.specs.Remaining.{Todo, Do, Ev, Act, Cond, NullFork, BoolFork, LoopEnd, For, Leave, Catch, Fin, Close, Finish, Supp, Out, Ended}
use Rattle.stub_conduct.specs.declared.choice.Choice.{Choice}
use Rattle.stub_conduct.specs.declared.choice.Conduct.{Conduct}
use Rattle.stub_conduct.specs.declared.choice.Conduct.TheVariants as conducts
use Rattle.ledger_state.specs.declared.array.ArrayObject.{ArrayObject}
use Rattle.ledger_state.specs.declared.locals.Locals.{Locals}
use Rattle.ledger_state.specs.Classes.{is_instance}
use Rattle.ledger_state.specs.Contents.{HeapContents}
use Rattle.ledger_state.specs.declared.value.Value.{Value}
use Rattle.ledger_obligations.specs.Obligations.{is_library_method}
use Rattle.ledger_frames.specs.Operations.{thrown_by_operation}
use Rattle.ledger_frames.specs.LedgerCallsCalls.{body_of, form_of, has_null_target, is_stray_from, leaves_by, operand_of, position_of, running}
use Rattle.ledger_frames.specs.Conducts.{library_method, on_this, settled}
use Rattle.ledger_frames.specs.Choosing.{agrees, goes_by}
use Rattle.ledger_moves.specs.declared.standing.FirstAction.{FirstAction}

-- what the top frame does next
pub data Move : Type 0 where
  -- a step within the frame, which throws an exception of this class, or none
  Inner : (e : Option ClassId) (s : Step) → Move
  -- a call that names one method of the program and begins the other
  Start : (named runs : MethodId) (a : Action) (pos : Pos) → Move
  -- a call that names one method, and of which the library does this, by the signature of its own method
  Library : (named m : MethodId) (d : Conduct) (s : Step) → Move
  -- the frame ends
  End : (pos : Pos) (q : Completion) → Move
  -- the step throws an ignored exception of this class, at this place
  Stray : (e : ClassId) (pos : Pos) → Move
  -- the values choose no step
  Rest : Move

-- the step that goes by this edge
abbrev pub by_edge : Edge → List Step → Option Step
by_edge e steps = find (goes_by e) steps

-- the step of an exception that leaves by this class; where it leaves by none there is no step
abbrev pub by_class : Option ClassId → List Step → Option Step
by_class None steps = None
by_class (Some c) steps = by_edge (edges.Throws c) steps

-- Calls. `steps` are the steps of the frame

abbrev pub inner_by : Option ClassId → Option Step → Move
inner_by e None = Rest
inner_by e (Some s) = Inner e s

-- a null target throws after the arguments are evaluated; the call has not started
unfoldable pub null_target : Program → List Step → Pos → MethodId → Move
null_target p steps pos named =
    if is_ignored p p.core.null_pointer_exception then Stray p.core.null_pointer_exception pos
    else inner_by (Some p.core.null_pointer_exception) (by_class (leaves_by p (method_at p named) p.core.null_pointer_exception) steps)

abbrev pub library_by : MethodId → MethodId → Conduct → Option Step → Move
library_by named m d None = Rest
library_by named m d (Some s) = Library named m d s

-- an exception leaves the call by its class in the named signature, unless it is stray
unfoldable pub library_as : Program → List Step → Pos → MethodId → MethodId → Conduct → Move
library_as p steps pos named m (conducts.Throws e) =
    if is_stray_from p (method_at p named) e then Stray e pos
    else library_by named m (conducts.Throws e) (by_class (leaves_by p (method_at p named) e) steps)
library_as p steps pos named m d = library_by named m d (by_edge edges.Go steps)

-- a call of the library goes by the next choice
unfoldable pub library_call : Program → HeapContents → List ArrayObject → Choice → Locals → List Step → Action → Pos → MethodId → MethodId → Move
library_call p h arrays choice l steps a pos named m =
    library_as p steps pos named m (on_this a (settled p h arrays m choice (position_of None l a)))

abbrev pub has_body : Option BodyId → Bool
has_body None = false
has_body (Some b) = true

-- a method without a body never runs
abbrev pub program_call : Program → Action → Pos → MethodId → MethodId → Move
program_call p a pos named runs = if has_body (body_of (method_at p runs)) then Start named runs a pos else Rest

unfoldable pub call_of : Program → HeapContents → List ArrayObject → Choice → Locals → List Step → Action → Pos → MethodId → MethodId → Move
call_of p h arrays choice l steps a pos named runs =
    if is_library_method p (method_at p runs) then library_call p h arrays choice l steps a pos named (library_method p named runs)
    else program_call p a pos named runs

-- the value is of the class that declares the named method, or of one under it (JLS 15.12.3)
abbrev pub is_target_of : Program → HeapContents → List ArrayObject → Option Method → Value → Bool
is_target_of p h arrays None v = false
is_target_of p h arrays (Some m) v = is_instance p h arrays (types.Obj m.class) v

-- the value may be the target of such a call
abbrev pub fits_target : Program → HeapContents → List ArrayObject → Option Method → TargetForm → Value → Bool
fits_target p h arrays m forms.Static v = true
fits_target p h arrays m forms.Super v = true
fits_target p h arrays m forms.This v = is_target_of p h arrays m v
fits_target p h arrays m forms.Other v = is_target_of p h arrays m v

-- a target that is of another class has no such method, and there is no step
unfoldable pub call : Program → HeapContents → List ArrayObject → Choice → Locals → List Step → Action → Pos → MethodId → Move
call p h arrays choice l steps a pos named =
    if has_null_target l a then null_target p steps pos named
    else (if fits_target p h arrays (method_at p named) (form_of a) (operand_of l a 0) then call_of p h arrays choice l steps a pos named (running p h l a named)
    else Rest)

-- Steps

-- a read of a library's constant is a call of the library
unfoldable pub take_plain : Program → HeapContents → List ArrayObject → Choice → Locals → List Step → Step → PlainValue → Move
take_plain p h arrays choice l steps s (plain.LibraryConstant m) = library_call p h arrays choice l steps s.action s.pos m m
take_plain p h arrays choice l steps s (plain.Literal x) = Inner None s
take_plain p h arrays choice l steps s (plain.Default t) = Inner None s
take_plain p h arrays choice l steps s (plain.StaticField f) = Inner None s

unfoldable pub take : Program → HeapContents → List ArrayObject → Choice → Locals → List Step → Option ClassId → Step → Action → Move
take p h arrays choice l steps e s (actions.Call m d n form) = call p h arrays choice l steps s.action s.pos m
take p h arrays choice l steps e s (actions.New m d n) = call p h arrays choice l steps s.action s.pos m
take p h arrays choice l steps e s (actions.Super m d n) = call p h arrays choice l steps s.action s.pos m
take p h arrays choice l steps e s (actions.Plain x v) = take_plain p h arrays choice l steps s v
take p h arrays choice l steps e s (actions.End q) = End s.pos q
take p h arrays choice l steps e s a = Inner e s

abbrev pub take_chosen : Program → HeapContents → List ArrayObject → Choice → Locals → List Step → Option ClassId → Option Step → Move
take_chosen p h arrays choice l steps e None = Rest
take_chosen p h arrays choice l steps e (Some s) = take p h arrays choice l steps e s s.action

-- the step that the values of a frame of the method `m` choose
abbrev pub chosen_of : Program → HeapContents → List ArrayObject → MethodId → Locals → List Step → Option Step
chosen_of p h arrays m l steps = find (agrees p h arrays m l) steps

-- the exception of an operation is stray where its class is ignored
unfoldable pub operate : Program → HeapContents → List ArrayObject → Choice → MethodId → Locals → List Step → Pos → Option ClassId → Move
operate p h arrays choice m l steps pos None = take_chosen p h arrays choice l steps None (chosen_of p h arrays m l steps)
operate p h arrays choice m l steps pos (Some e) =
    if is_ignored p e then Stray e pos
    else take_chosen p h arrays choice l steps (Some e) (chosen_of p h arrays m l steps)

-- the action that stands first, where an action does. A `throw` of null whose exception is ignored has no step, but it has an
-- action; no item of another kind throws
abbrev pub standing : Option Todo → Option FirstAction
standing None = None
standing (Some (Act a pos)) = Some (record { action = a; pos = pos })
standing (Some (Do s d)) = None
standing (Some (Ev e d)) = None
standing (Some (Cond x d q r)) = None
standing (Some (NullFork pos d q r)) = None
standing (Some (BoolFork pos d q r)) = None
standing (Some (LoopEnd w d)) = None
standing (Some (For w d)) = None
standing (Some (Leave x pos)) = None
standing (Some (Catch s b)) = None
standing (Some (Fin f b)) = None
standing (Some (Close r b)) = None
standing (Some (Finish q b f)) = None
standing (Some (Supp q b s)) = None
standing (Some (Out q)) = None
standing (Some Ended) = None

-- what comes next in a frame of the method `m`, where `first` is the action that stands first
unfoldable pub next_move : Program → HeapContents → List ArrayObject → Choice → MethodId → Locals → List Step → Option FirstAction → Move
next_move p h arrays choice m l steps None = take_chosen p h arrays choice l steps None (chosen_of p h arrays m l steps)
next_move p h arrays choice m l steps (Some a) = operate p h arrays choice m l steps a.pos (thrown_by_operation p h arrays l a.action)

-- Returns

-- how a frame's end goes on in its caller
pub data Return : Type 0 where
  -- the call, which names this method, ends by an exception of this class or by none, and the caller takes this step
  Back : (e : Option ClassId) (named : MethodId) (t : Step) → Return
  -- the exception is ignored, and leaves the call at this place
  StrayBack : (e : ClassId) (pos : Pos) → Return
  -- the caller stands at no call
  NoWay : Return

abbrev pub back_by : Option ClassId → MethodId → Option Step → Return
back_by e named None = NoWay
back_by e named (Some t) = Back e named t

-- an exception leaves the call by its class in the named signature, unless it is stray, at the place of the call
unfoldable pub back_as : Program → List Step → Pos → MethodId → Option ClassId → Return
back_as p steps pos named None = back_by None named (by_edge edges.Go steps)
back_as p steps pos named (Some e) =
    if is_stray_from p (method_at p named) e then StrayBack e pos
    else back_by (Some e) named (by_class (leaves_by p (method_at p named) e) steps)

unfoldable pub back_to : Program → List Step → Pos → Option ClassId → Option MethodId → Return
back_to p steps pos e None = NoWay
back_to p steps pos e (Some named) = back_as p steps pos named e

abbrev pub back_from : Program → List Step → Option ClassId → Option Step → Return
back_from p steps e None = NoWay
back_from p steps e (Some t) = back_to p steps t.pos e (called_method t.action)

-- `steps` are the steps of the caller, of which the first is one of its call; the frame ends by an exception of the class `e`, or
-- by none
unfoldable pub return_move : Program → List Step → Option ClassId → Return
return_move p steps e = back_from p steps e (slice_get steps 0)
