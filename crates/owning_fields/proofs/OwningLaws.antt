-- The least of the refusals of owning fields, field by field.
use Rattle.std.proofs.Common.{◌≡◌, ℕ, Option, List, length, sym, ◌∙◌}
use Rattle.std.specs.List.{range_with_len}
use Rattle.rlc_base.specs.declared.faults.Refusal.{Refusal}
use Rattle.program_model.specs.declared.kinds.FieldId.{FieldId}
use Rattle.program_model.specs.declared.program.Program.{Program}
use Rattle.program_model.specs.Lookups.{field_at}
use Rattle.must_call_sets.specs.OwningCases.{owning_cases, owning_cases_in}
use Rattle.refusal_order.specs.Refusals.{least, least_of_all}
use Rattle.refusal_order.proofs.LeastLaws.{least-append, least-flat_map, least_of_all-map}

-- what the join of two cases needs
pub ruleset case_laws = (least-append)

abbrev pub field_of : ℕ → FieldId
field_of k = record { 0 = k }

-- the refusal of the field with this number
abbrev pub refusal_of_field : Program → ℕ → Option Refusal
refusal_of_field p k = least (owning_cases_in p (field_of k) (field_at p (field_of k)))

pub all_fields : (p : Program) → least_of_all (refusal_of_field p) (range_with_len 0 (length p.fields.items)) ≡ least (owning_cases p)
all_fields p =
    let fields : List ℕ = range_with_len 0 (length p.fields.items) in
    sym (least-flat_map (λ f. owning_cases_in p f (field_at p f)) _ ∙ least_of_all-map (λ f. least (owning_cases_in p f (field_at p f))) field_of fields)
