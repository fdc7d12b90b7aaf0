-- The bodies whose variables and owning fields sets of places have room for.
use Rattle.std.specs.Prelude.{◌≡◌, ℕ, ◌≤◌, true, Option, Some, None, length}
use Rattle.program_model.specs.declared.kinds.BodyId.{BodyId}
use Rattle.program_model.specs.declared.kinds.FieldId.{FieldId}
use Rattle.program_model.specs.declared.program.Program.{Program}
use Rattle.program_model.specs.declared.tree.Body.{Body}
use Rattle.program_model.specs.Lookups.{body_at}
use Rattle.control_actions.specs.PlaceNumbers.{IsSmall}
use Rattle.control_actions.specs.Owned.{place_of_field}
use Rattle.must_call_sets.specs.Bodies.{has_field_place}

abbrev pub variables_in : Option Body → ℕ
variables_in None = 0
variables_in (Some x) = length x.vars.items

-- how many parameters, locals, resources and catch variables a body has
abbrev pub variable_count : Program → BodyId → ℕ
variable_count p b = variables_in (body_at p b)

pub record HasRoom (p : Program) (b : BodyId) : Type 0 where
  pub variables : variable_count p b ≤ 160
  pub fields : (f : FieldId) → has_field_place p b f ≡ true → IsSmall (place_of_field p f)
