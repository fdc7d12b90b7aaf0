-- The refusals of overriding methods, as they are gathered class by class and method by method.
use Rattle.std.specs.Prelude.{List, flat_map}
use Rattle.rlc_base.specs.declared.faults.Refusal.{Refusal}
use Rattle.program_model.specs.declared.kinds.ClassId.{ClassId}
use Rattle.program_model.specs.declared.kinds.MethodId.{MethodId}
use Rattle.program_model.specs.declared.program.Method.{Method}
use Rattle.program_model.specs.declared.program.Program.{Program}
use Rattle.program_model.specs.Lookups.{method_at}
use Rattle.program_model.specs.Overrides.{methods_of, override_at, overrides_of}
use Rattle.class_overrides.specs.Cases.{override_case}

-- that of the method `m`, which is declared below `n`
abbrev pub declared_case : Program → Method → MethodId → List Refusal
declared_case p n m = flat_map (override_case p) (override_at n (method_at p m))

-- those of what the class declares or runs for one method
abbrev pub cases_for : Program → ClassId → MethodId → List Refusal
cases_for p c n = flat_map (override_case p) (overrides_of p c (method_at p n))

-- and for each method of the class `d`
abbrev pub cases_against : Program → ClassId → ClassId → List Refusal
cases_against p c d = flat_map (cases_for p c) (methods_of p d)
