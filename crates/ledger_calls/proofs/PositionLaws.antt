-- Positions of calls.
use Rattle.std.proofs.Common.{◌≡◌, refl, ℕ, zero, suc, ◌≢◌, Option}
use Rattle.control_actions.specs.declared.action.Action.{Action}
use Rattle.ledger_state.specs.declared.locals.Locals.{Locals}
use Rattle.ledger_calls.specs.Calls.{operand_of, position_of}

-- a position behind that of the receiver is an argument
pub position_behind : (made : Option ℕ) (l : Locals) (a : Action) (k : ℕ) → k ≢ 0 → operand_of l a k ≡ position_of made l a k
position_behind made l a zero h = absurd (h refl)
position_behind made l a (suc i) h = refl
