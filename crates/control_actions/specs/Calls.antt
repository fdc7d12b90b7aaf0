-- What an action calls: the method, the form of its target, and where its operands stand (JLS 15.9, 15.12, 8.8.7.1).
use Rattle.std.specs.Prelude.{ℕ, zero, suc, ◌+◌, nat_lt, nat_le, nat_eq, Bool, true, false, ◌&&◌, Option, Some, None, if◌then◌else◌}
use Rattle.program_model.specs.declared.kinds.MethodId.{MethodId}
use Rattle.program_model.specs.declared.program.Program.{Program}
use Rattle.program_model.specs.declared.program.Method.{Method}
use Rattle.program_model.specs.Lookups.{method_at}
use Rattle.control_actions.specs.declared.action.Action.{Action}
use Rattle.control_actions.specs.declared.action.Action.TheVariants as actions
use Rattle.control_actions.specs.declared.action.Completion.{Completion}
use Rattle.control_actions.specs.declared.action.Completion.TheVariants as completions
use Rattle.control_actions.specs.declared.action.TargetForm.{TargetForm}
use Rattle.control_actions.specs.declared.action.TargetForm.TheVariants as forms

-- the method or constructor that the action calls
abbrev pub called_method : Action → Option MethodId
called_method (actions.Call m d n form) = Some m
called_method (actions.New m d n) = Some m
called_method (actions.Super m d n) = Some m
called_method _ = None

-- the form of the target of a call; a `new` and a super call have no target. Where operands stand is not to be read from
-- it: `operand_at` says that
abbrev pub target_form : Action → Option TargetForm
target_form (actions.Call m d n form) = Some form
target_form (actions.New m d n) = Some forms.Static
target_form (actions.Super m d n) = Some forms.Static
target_form _ = None

-- the call is on `this`, written or implied, or by `super`
abbrev pub is_this_form : TargetForm → Bool
is_this_form forms.Static = false
is_this_form forms.This = true
is_this_form forms.Super = true
is_this_form forms.Other = false

abbrev pub is_receiver : Option ℕ → Bool
is_receiver None = false
is_receiver (Some k) = nat_eq k 0

abbrev pub resets_receiver : Option Method → Bool
resets_receiver None = false
resets_receiver (Some m) = is_receiver m.sig.reset

-- the call creates the obligation of `this` anew (Checker Framework manual, Resource Leak Checker, "Creating obligations"): its
-- receiver is the target, and is written `this`, implied, or `super`
abbrev pub is_reset_of_this : Program → Action → Bool
is_reset_of_this p (actions.Call m d n form) = is_this_form form && resets_receiver (method_at p m)
is_reset_of_this p _ = false

-- the depth of the k-th of `n` temps from depth `d` on; a depth has 32 bits
abbrev pub temp_at : ℕ → ℕ → ℕ → Option ℕ
temp_at d n k = if nat_lt k n && nat_le (d + k) 4294967295 then Some (d + k) else None

-- without a receiver position 1 is that of the first operand
abbrev pub without_receiver : ℕ → ℕ → ℕ → Option ℕ
without_receiver d n zero = None
without_receiver d n (suc k) = temp_at d n k

abbrev pub call_operand : TargetForm → ℕ → ℕ → ℕ → Option ℕ
call_operand forms.Static d n k = without_receiver d n k
call_operand forms.This d n k = temp_at d n k
call_operand forms.Super d n k = temp_at d n k
call_operand forms.Other d n k = temp_at d n k

-- the object of a `new` is made by it: position 0 has no operand, and position 1 is t(d + 1)
abbrev pub new_operand : ℕ → ℕ → ℕ → Option ℕ
new_operand d n zero = None
new_operand d n (suc k) = temp_at (d + 1) n k

-- the depth of the temp that is the operand of a position, where position 0 is the receiver and position k the k-th
-- parameter
abbrev pub operand_at : Action → ℕ → Option ℕ
operand_at (actions.Call m d n form) k = call_operand form d n k
operand_at (actions.New m d n) k = new_operand d n k
operand_at (actions.Super m d n) k = temp_at d n k
operand_at _ k = None

-- the depth of the temp that holds the completion's value
abbrev pub completion_temp : Completion → Option ℕ
completion_temp (completions.ReturnValue d pos) = Some d
completion_temp (completions.Throw d t pos) = Some d
completion_temp (completions.Break pos) = None
completion_temp (completions.Continue pos) = None
completion_temp (completions.Return pos) = None
