-- What a frame holds.
use Rattle.std.specs.Prelude.{ℕ, Option, Some, None, List, ◌∷◌, ◌++◌, slice_get}
use Rattle.ledger_state.specs.declared.locals.Locals.{Locals}
use Rattle.ledger_state.specs.declared.value.Value.{Value}
use Rattle.ledger_state.specs.declared.value.Value.TheVariants as values
use Rattle.ledger_state.specs.Values.{value_or_nothing}

-- what the temp of depth `d` holds
abbrev pub temp_value : Locals → ℕ → Value
temp_value l d = value_or_nothing (slice_get l.temps d)

abbrev pub temp_in : Locals → Option ℕ → Value
temp_in l None = values.Nothing
temp_in l (Some d) = temp_value l d

-- what variable `i` holds
abbrev pub variable_value : Locals → ℕ → Value
variable_value l i = value_or_nothing (slice_get l.variables i)

-- all that the frame holds
abbrev pub held : Locals → List Value
held l = l.this ∷ l.variables ++ l.temps
