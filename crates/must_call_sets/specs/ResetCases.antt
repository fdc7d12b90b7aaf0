-- Which resets are refused (Checker Framework manual, Resource Leak Checker, "Creating obligations").
use Rattle.std.specs.Prelude.{ℕ, Bool, false, ◌&&◌, not, Option, Some, None, List, ◌++◌}
use Rattle.std.specs.List.{list_any, flat_map}
use Rattle.rlc_base.specs.declared.code.Code.TheVariants as refused
use Rattle.rlc_base.specs.declared.faults.Refusal.{Refusal}
use Rattle.program_model.specs.declared.kinds.ClassId.{ClassId}
use Rattle.program_model.specs.declared.kinds.VType.{VType}
use Rattle.program_model.specs.declared.program.Program.{Program}
use Rattle.program_model.specs.declared.program.Method.{Method}
use Rattle.program_model.specs.SuperTests.{is_under}
use Rattle.program_model.specs.Overrides.{Overriding}
use Rattle.must_call_sets.specs.Signatures.{is_present, is_must_call_method, type_at}
use Rattle.refusal_order.specs.Refusals.{where_true}
use Rattle.must_call_sets.specs.Overridings.{class_ids, overridings}
use Rattle.must_call_sets.specs.AliasCases.{is_same_position}
use Rattle.must_call_sets.specs.OwningCases.{is_class_type}

abbrev pub is_class_type_in : Option VType → Bool
is_class_type_in None = false
is_class_type_in (Some t) = is_class_type t

-- the target's type is no class type
abbrev pub has_bad_target : Method → Option ℕ → Bool
has_bad_target m None = false
has_bad_target m (Some k) = not (is_class_type_in (type_at m.sig k))

-- a must-call method of its class, or of a class under it, whether that class has it from above or declares an alike one of its
-- own
abbrev pub is_finalizer_below : Program → Method → ClassId → Bool
is_finalizer_below p m c = is_under p c m.class && is_must_call_method p c m

abbrev pub is_some_finalizer : Program → Method → Bool
is_some_finalizer p m = list_any (is_finalizer_below p m) (class_ids p)

abbrev pub reset_cases_of_method : Program → Method → List Refusal
reset_cases_of_method p m =
    where_true (has_bad_target m m.sig.reset) refused.BadReset m.pos
    ++ where_true (is_present m.sig.reset && is_some_finalizer p m) refused.BadReset m.pos

-- a reset that the overridden method has not
abbrev pub reset_cases_of_override : Overriding → List Refusal
reset_cases_of_override o = where_true (is_present o.by.sig.reset && not (is_same_position o.by.sig.reset o.overridden.sig.reset)) refused.BadReset o.pos

-- all cases
abbrev pub reset_cases : Program → List Refusal
reset_cases p = flat_map (reset_cases_of_method p) p.methods.items ++ flat_map reset_cases_of_override (overridings p)
