-- The signature that a call names, what its target is, and where its operands stand.
use Rattle.std.specs.Prelude.{ℕ, Bool, true, false, not, ◌&&◌, Option, Some, None}
use Rattle.program_model.specs.declared.kinds.MethodId.{MethodId}
use Rattle.program_model.specs.declared.program.Program.{Program}
use Rattle.program_model.specs.declared.program.Method.{Method}
use Rattle.program_model.specs.Lookups.{method_at}
use Rattle.program_model.specs.SuperTests.{is_under, is_ignored}
use Rattle.control_actions.specs.declared.action.Action.{Action}
use Rattle.control_actions.specs.declared.action.Edge.{Edge}
use Rattle.control_actions.specs.declared.action.Edge.TheVariants as edges
use Rattle.control_actions.specs.declared.action.TargetForm.{TargetForm}
use Rattle.control_actions.specs.declared.action.TargetForm.TheVariants as forms
use Rattle.control_actions.specs.Calls.{called_method, operand_at, target_form}
use Rattle.obligation_facts.specs.Facts.{PlaceSet, has_temp}

abbrev pub callee_in : Program → Option MethodId → Option Method
callee_in p None = None
callee_in p (Some m) = method_at p m

-- the method or constructor that an action calls
abbrev pub callee : Program → Action → Option Method
callee p a = callee_in p (called_method a)

-- `super.m(..)` counts as a call on an implied `this`
abbrev pub is_this_form : Option TargetForm → Bool
is_this_form None = false
is_this_form (Some forms.Static) = false
is_this_form (Some forms.This) = true
is_this_form (Some forms.Super) = true
is_this_form (Some forms.Other) = false

-- the target of the call is `this`, written or implied
abbrev pub is_this_target : Action → Bool
is_this_target a = is_this_form (target_form a)

abbrev pub is_other_form : Option TargetForm → Bool
is_other_form None = false
is_other_form (Some forms.Static) = false
is_other_form (Some forms.This) = false
is_other_form (Some forms.Super) = false
is_other_form (Some forms.Other) = true

-- the call has a target, which may be null: it is an expression other than `this`
abbrev pub may_have_null_target : Action → Bool
may_have_null_target a = is_other_form (target_form a)

abbrev pub is_super_form : Option TargetForm → Bool
is_super_form None = false
is_super_form (Some forms.Static) = false
is_super_form (Some forms.This) = false
is_super_form (Some forms.Super) = true
is_super_form (Some forms.Other) = false

-- the call is `super.m(..)`
abbrev pub is_super_target : Action → Bool
is_super_target a = is_super_form (target_form a)

-- the operand of a position is among these places
abbrev pub holds_operand : Action → PlaceSet → ℕ → Bool
holds_operand a held k = has_temp held (operand_at a k)

-- The edge may be that of the exception which a null target throws, before the call starts.
abbrev pub may_be_null_target : Program → Action → Edge → Bool
may_be_null_target p a (edges.Throws t) =
    may_have_null_target a && not (is_ignored p p.core.null_pointer_exception) && is_under p p.core.null_pointer_exception t
may_be_null_target p a _ = false
