-- The variables of a body.
use Rattle.std.proofs.Common.{◌≡◌, ℕ, ◌≤◌, None, length, arith}
use Rattle.std.proofs.lemmas.Option.{slice_get_past}
use Rattle.program_model.specs.declared.tree.Body.{Body}
use Rattle.program_model.specs.Lookups.{variable_at}

-- no variable stands at a number from 160 on
pub past_variables : (b : Body) (k : ℕ) → length b.vars.items ≤ 160 → 160 ≤ k → variable_at b k ≡ None
past_variables b k few above = slice_get_past b.vars.items k (omega arith)
