-- Steps that read a constant of the library.
use Rattle.std.proofs.Common.{◌≡◌, ℕ, false, refl, Some, None}
use Rattle.program_model.specs.declared.kinds.MethodId.{MethodId}
use Rattle.program_model.specs.declared.program.Program.{Program}
use Rattle.java_control.specs.Calls.{is_reset_of_this, operand_at}
use Rattle.control_actions.specs.declared.action.Action.{Action}
use Rattle.control_actions.specs.declared.action.Action.TheVariants as actions
use Rattle.control_actions.specs.declared.action.Edge.{Edge}
use Rattle.control_actions.specs.declared.fact.Fact.{Fact}
use Rattle.value_laws.specs.Outcomes.{IsNotNull, IsPlainRow}
use Rattle.value_laws.specs.PlacePlaces.{IsWay, SetsLocals}
use Rattle.value_laws.proofs.Moved.{IsConstantRead}

-- the row of the flow table, of a read
pub constant_row : (a : Action) (named : MethodId) → IsConstantRead a named → IsPlainRow a
constant_row actions.Skip named is = absurd is
constant_row (actions.Plain q v) named is = tt
constant_row a named is = absurd is

-- its edge
pub constant_way : (a : Action) (e : Edge) (named : MethodId) → IsConstantRead a named → IsWay a e
constant_way actions.Skip e named is = tt
constant_way (actions.Put f d this) e named is = absurd is
constant_way a e named is = tt

-- it creates nothing anew
pub constant_resets_none : (p : Program) (a : Action) (named : MethodId) → IsConstantRead a named → is_reset_of_this p a ≡ false
constant_resets_none p actions.Skip named is = refl
constant_resets_none p (actions.Call m d n form) named is = absurd is
constant_resets_none p a named is = refl

-- and tests nothing
pub constant_not_null : (f : Fact) (a : Action) (e : Edge) (named : MethodId) → IsConstantRead a named → IsNotNull f a e
constant_not_null f actions.Skip e named is = absurd is
constant_not_null f (actions.Test d) e named is = absurd is
constant_not_null f a e named is = tt

-- a read has no operand
pub no_operand : (a : Action) (named : MethodId) → IsConstantRead a named → (k n : ℕ) → operand_at a k ≡ Some n → ⊥
no_operand actions.Skip named is k n some = is
no_operand (actions.Plain x v) named is k n some = let never : None ≡ Some n = some in cc
no_operand a named is k n some = is

-- it sets the place that it reads into
pub constant_sets : (a : Action) (named : MethodId) → IsConstantRead a named → SetsLocals a
constant_sets actions.Skip named is = tt
constant_sets (actions.Plain x v) named is = tt
constant_sets a named is = absurd is
