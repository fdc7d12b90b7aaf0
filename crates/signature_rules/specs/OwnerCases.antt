-- Which classes stand under one that declares owning fields. What a method promises of such a field is said of the objects of its class alone: a method of a
-- class under it knows nothing of the field. (Of a class that extends one the rule on owning fields says so at the field; here it is said of all that stand
-- under it, however they come there.)
use Rattle.std.specs.Prelude.{Bool, ◌&&◌, not, Option, Some, None, List, []}
use Rattle.std.specs.List.{flat_map, list_any}
use Rattle.rlc_base.specs.declared.code.Code.TheVariants as refused
use Rattle.rlc_base.specs.declared.faults.Refusal.{Refusal}
use Rattle.program_model.specs.declared.kinds.ClassId.{ClassId}
use Rattle.program_model.specs.declared.program.Class.{Class}
use Rattle.program_model.specs.declared.program.Program.{Program}
use Rattle.program_model.specs.Lookups.{class_at, field_at}
use Rattle.program_model.specs.SuperTests.{is_class}
use Rattle.must_call_sets.specs.AliasCases.{is_owning_in}
use Rattle.must_call_sets.specs.Bodies.{fields_in}
use Rattle.must_call_sets.specs.Overridings.{class_ids}
use Rattle.refusal_order.specs.Refusals.{where_true}

-- the class declares an owning field
abbrev pub declares_owning : Program → ClassId → Bool
declares_owning p d = list_any (λ f. is_owning_in (field_at p f)) (fields_in (class_at p d))

-- another class that is above it declares an owning field
abbrev pub stands_under_owner : Program → ClassId → Class → Bool
stands_under_owner p c k = list_any (λ d. not (is_class d c) && declares_owning p d) k.above.items

abbrev pub owner_cases_in : Program → ClassId → Option Class → List Refusal
owner_cases_in p c None = []
owner_cases_in p c (Some k) = where_true (stands_under_owner p c k) refused.OwningFieldShape k.pos

-- all cases
abbrev pub owner_cases : Program → List Refusal
owner_cases p = flat_map (λ c. owner_cases_in p c (class_at p c)) (class_ids p)
