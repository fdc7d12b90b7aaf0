-- Calls: which method runs, what begins with it, and what its end does to obligations.
use Rattle.std.specs.Prelude.{ℕ, zero, suc, ◌+◌, ◌-◌, Bool, true, false, not, ◌&&◌, Option, Some, None, is_some, List, [], ◌∷◌, ◌++◌, length, map, replicate, nat_lt, unwrap_or, if◌then◌else◌, ◌||◌}
use Rattle.std.specs.List.{find, list_any, flat_map, range_with_len}
use Rattle.program_model.specs.declared.kinds.BodyId.{BodyId}
use Rattle.program_model.specs.declared.kinds.ClassId.{ClassId}
use Rattle.program_model.specs.declared.kinds.MethodId.{MethodId}
use Rattle.program_model.specs.declared.kinds.Target.{Target}
use Rattle.program_model.specs.declared.kinds.Target.TheVariants as targets
use Rattle.program_model.specs.declared.program.Program.{Program}
use Rattle.program_model.specs.declared.program.Method.{Method}
use Rattle.program_model.specs.declared.program.ParamSig.{ParamSig}
use Rattle.program_model.specs.declared.program.Promise.{Promise}
use Rattle.program_model.specs.declared.tree.Body.{Body}
use Rattle.program_model.specs.Lookups.{body_at, method_at}
use Rattle.program_model.specs.Overrides.{method_run}
use Rattle.program_model.specs.SuperTests.{is_ignored, is_under}
use Rattle.rlc_base.specs.declared.name_id.NameId.{NameId}
use Rattle.control_actions.specs.declared.action.Action.{Action}
use Rattle.control_actions.specs.declared.action.TargetForm.{TargetForm}
use Rattle.control_actions.specs.declared.action.TargetForm.TheVariants as forms
use Rattle.java_control.specs.Calls.{operand_at, target_form}
use Rattle.java_control.specs.Control.{start_of}
use Rattle.java_control.specs.Exceptions.{throws_in, unchecked}
use Rattle.ledger_state.specs.declared.entry.Owner.{Owner}
use Rattle.ledger_state.specs.declared.value.Value.{Value}
use Rattle.ledger_state.specs.declared.value.Value.TheVariants as values
use Rattle.ledger_state.specs.declared.locals.Locals.{Locals}
use Rattle.ledger_obligations.specs.declared.note.Note.{Note}
use Rattle.ledger_obligations.specs.Obligations.{keep_all, move, note}
use Rattle.ledger_calls.specs.Configuration.{Frame}
use Rattle.ledger_state.specs.Classes.{runtime_class}
use Rattle.ledger_state.specs.Contents.{HeapContents}
use Rattle.ledger_state.specs.Fields.{field_of}
use Rattle.ledger_state.specs.Locals.{temp_in}
use Rattle.ledger_state.specs.Values.{is_null, number_of}

-- the depth of the operand of a position, where position 0 is the receiver; a position has 32 bits
abbrev pub depth_at : Action → ℕ → Option ℕ
depth_at a k = if nat_lt k 4294967296 then operand_at a k else None

-- the operand of a position
abbrev pub operand_of : Locals → Action → ℕ → Value
operand_of l a k = temp_in l (depth_at a k)

abbrev pub receiver_or : Option ℕ → Locals → Action → Value
receiver_or None l a = operand_of l a 0
receiver_or (Some k) l a = values.Object k

-- what a position of a call is. Position 0 of a `new` is the object that it makes, here `made`
abbrev pub position_of : Option ℕ → Locals → Action → ℕ → Value
position_of made l a zero = receiver_or made l a
position_of made l a (suc i) = operand_of l a (suc i)

-- Which method runs

-- the method that an object of the run-time class runs for the named one (JLS 15.12.4.4). Only a class under that of the named
-- method overrides it; no other class has the target of a call
abbrev pub overriding : Program → MethodId → Method → ClassId → MethodId
overriding p named m c = if m.is_private || not (is_under p c m.class) then named else unwrap_or (method_run p m c) named

abbrev pub overriding_in : Program → MethodId → Option Method → ClassId → MethodId
overriding_in p named None c = named
overriding_in p named (Some m) c = overriding p named m c

-- a null runs nothing
abbrev pub overriding_by : Program → MethodId → Option ClassId → MethodId
overriding_by p named None = named
overriding_by p named (Some c) = overriding_in p named (method_at p named) c

abbrev pub by_form : Program → HeapContents → MethodId → TargetForm → Value → MethodId
by_form p h named forms.Static v = named
by_form p h named forms.Super v = named
by_form p h named forms.This v = overriding_by p named (runtime_class p h v)
by_form p h named forms.Other v = overriding_by p named (runtime_class p h v)

abbrev pub form_or_static : Option TargetForm → TargetForm
form_or_static None = forms.Static
form_or_static (Some f) = f

-- the form of the target of what is called; a read of a library's constant has none
abbrev pub form_of : Action → TargetForm
form_of a = form_or_static (target_form a)

-- the method that runs at the call, where the named one is `named`
abbrev pub running : Program → HeapContents → Locals → Action → MethodId → MethodId
running p h l a named = by_form p h named (form_of a) (operand_of l a 0)

abbrev pub is_missing_target : TargetForm → Value → Bool
is_missing_target forms.Static v = false
is_missing_target forms.Super v = is_null v
is_missing_target forms.This v = is_null v
is_missing_target forms.Other v = is_null v

-- the target of the call is null: the call does not start
abbrev pub has_null_target : Locals → Action → Bool
has_null_target l a = is_missing_target (form_of a) (operand_of l a 0)

-- Signatures

abbrev pub params_in : Option Method → List ParamSig
params_in None = []
params_in (Some m) = m.sig.params.items

abbrev pub reset_position : Option Method → Option ℕ
reset_position None = None
reset_position (Some m) = m.sig.reset

abbrev pub alias_position : Option Method → Option ℕ
alias_position None = None
alias_position (Some m) = m.sig.alias

abbrev pub interest_in : Option Method → Option NameId
interest_in None = None
interest_in (Some m) = m.sig.interest

-- the class by which an exception of class `e` leaves the call: the first that it is under of the throws clause, in its order,
-- then of the roots of the unchecked exceptions
abbrev pub leaves_by : Program → Option Method → ClassId → Option ClassId
leaves_by p named e = find (is_under p e) (throws_in named ++ unchecked p)

-- an exception of class `e` leaves the call as a stray one: its class is ignored, and it is under no class of the throws clause
abbrev pub is_stray_from : Program → Option Method → ClassId → Bool
is_stray_from p named e = is_ignored p e && not (list_any (is_under p e) (throws_in named))

-- The start of a call

abbrev pub move_param : Program → Owner → Value → ParamSig → HeapContents → HeapContents
move_param p o v q h = if q.owning then move p q.vtype o v h else h

-- the owning arguments from position `k` on move to `o`
abbrev pub move_params : Program → Owner → (ℕ → Value) → ℕ → List ParamSig → HeapContents → HeapContents
move_params p o arguments k [] h = h
move_params p o arguments k (q ∷ qs) h = move_params p o arguments (k + 1) qs (move_param p o (arguments k) q h)

-- the owning arguments of the named signature move to the frame of the callee, or to the library
abbrev pub arguments_moved : Program → Owner → Locals → Action → Option Method → HeapContents → HeapContents
arguments_moved p o l a named h = move_params p o (operand_of l a) 1 (params_in named) h

abbrev pub body_of : Option Method → Option BodyId
body_of None = None
body_of (Some m) = m.body

abbrev pub variables_in : Option Body → ℕ
variables_in None = 0
variables_in (Some b) = length b.vars.items

abbrev pub variable_count : Program → Option BodyId → ℕ
variable_count p None = 0
variable_count p (Some b) = variables_in (body_at p b)

abbrev pub control_in : Program → Option BodyId → Frame → Frame
control_in p None fr = fr
control_in p (Some b) fr = record fr { control = start_of p b }

-- the frame of a method that begins, with the values of its parameters; its other variables hold nothing
abbrev pub begun : Program → MethodId → Value → List Value → Frame
begun p m self arguments =
    control_in p (body_of (method_at p m))
    (record {
      method = m;
      control = [];
      locals = record {
        variables = arguments ++ replicate (variable_count p (body_of (method_at p m)) - length arguments) values.Nothing;
        this = self;
        temps = [];
      };
    })

-- the values of the arguments, from position 1 on
abbrev pub argument_values : Locals → Action → Option Method → List Value
argument_values l a m = map (operand_of l a) (range_with_len 1 (length (params_in m)))

-- The end of a call

abbrev pub note_of_name : ℕ → Option NameId → List Note
note_of_name k None = []
note_of_name k (Some n) = note false k n ∷ []

abbrev pub note_of_object : Option ℕ → Option NameId → List Note
note_of_object None n = []
note_of_object (Some k) n = note_of_name k n

-- a call without arguments is noted on its receiver, but for `super.m()`
abbrev pub note_by_form : TargetForm → Option ℕ → Option NameId → List Note
note_by_form forms.Static k n = []
note_by_form forms.Super k n = []
note_by_form forms.This k n = note_of_object k n
note_by_form forms.Other k n = note_of_object k n

abbrev pub receiver_note : Locals → Action → Option Method → List Note
receiver_note l a named = note_by_form (form_of a) (number_of (operand_of l a 0)) (interest_in named)

-- the object of a position
abbrev pub position_object : (ℕ → Value) → ℕ → Option ℕ
position_object at k = number_of (at k)

abbrev pub keep_promise : Program → HeapContents → (ℕ → Value) → Promise → Target → List Note
keep_promise p h at q (targets.At k) = keep_all (position_object at k) q.names
keep_promise p h at q (targets.OfField f) = keep_all (number_of (field_of p h (at 0) f)) q.names

abbrev pub kept_promise : Program → HeapContents → (ℕ → Value) → Promise → List Note
kept_promise p h at q = keep_promise p h at q q.target

-- what a call of the library keeps of these promises
abbrev pub kept_promises : Program → HeapContents → (ℕ → Value) → List Promise → List Note
kept_promises p h at promises = flat_map (kept_promise p h at) promises

abbrev pub object_by : (ℕ → Value) → Option ℕ → Option ℕ
object_by at None = None
object_by at (Some k) = position_object at k

-- the object whose obligation the named signature creates anew
abbrev pub reset_target : (ℕ → Value) → Option Method → Option ℕ
reset_target at named = object_by at (reset_position named)

-- the object that the result, or the object of a `new`, is an alias of
abbrev pub alias_target : (ℕ → Value) → Option Method → Option ℕ
alias_target at m = object_by at (alias_position m)

-- the result, or the object of a `new`, is an alias
abbrev pub is_alias : Option Method → Bool
is_alias m = is_some (alias_position m)
