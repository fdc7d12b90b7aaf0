-- The actions that may be calls.
use Rattle.std.specs.Prelude.{Bool, true, false}
use Rattle.control_actions.specs.declared.action.Action.{Action}
use Rattle.control_actions.specs.declared.action.Action.TheVariants as actions
use Rattle.control_actions.specs.declared.action.PlainValue.{PlainValue}
use Rattle.control_actions.specs.declared.action.PlainValue.TheVariants as plain

abbrev pub is_constant_read : PlainValue → Bool
is_constant_read (plain.LibraryConstant m) = true
is_constant_read v = false

-- a call of a method or constructor, or the read of a library's constant, which is a call of the library
abbrev pub may_call : Action → Bool
may_call (actions.Call m d n form) = true
may_call (actions.New m d n) = true
may_call (actions.Super m d n) = true
may_call (actions.Plain x v) = is_constant_read v
may_call a = false
