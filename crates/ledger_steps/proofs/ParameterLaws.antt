-- Parameters by their positions.
use Rattle.std.proofs.Common.{◌≡◌, ap, arith, refl, ℕ, zero, suc, ◌-◌, ◌≢◌, None, Option, Some}
use Rattle.control_actions.specs.declared.action.Action.{Action}
use Rattle.ledger_calls.specs.Calls.{alias_position, alias_target, object_by, operand_of, position_of, reset_position, reset_target}
use Rattle.ledger_state.specs.declared.locals.Locals.{Locals}
use Rattle.ledger_state.specs.Locals.{variable_value}
use Rattle.ledger_steps.specs.InnerSteps.{parameter}
use Rattle.program_model.specs.declared.program.Method.{Method}

-- a position behind that of `this` is a variable
pub parameter_behind : (l : Locals) (k : ℕ) → k ≢ 0 → variable_value l (k - 1) ≡ parameter l k
parameter_behind l zero h = absurd (h refl)
parameter_behind l (suc i) h =
    let e : suc i - 1 ≡ i = omega arith in
    ap (λ n. variable_value l n) e

object_as : (l : Locals) (a : Action) (k : Option ℕ) → object_by (position_of None l a) k ≡ object_by (operand_of l a) k
object_as l a None = refl
object_as l a (Some zero) = refl
object_as l a (Some (suc i)) = refl

-- where no object is made, each position is its operand
pub reset_as : (l : Locals) (a : Action) (m : Option Method) → reset_target (position_of None l a) m ≡ reset_target (operand_of l a) m
reset_as l a m = object_as l a (reset_position m)

pub alias_as : (l : Locals) (a : Action) (m : Option Method) → alias_target (position_of None l a) m ≡ alias_target (operand_of l a) m
alias_as l a m = object_as l a (alias_position m)
