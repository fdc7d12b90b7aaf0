-- Gathered class by class and method by method, the refusals are those of all overridings.
use Rattle.std.proofs.Common.{◌≡◌, ◌∙◌, not, Some, ◌++◌, filter}
use Rattle.std.specs.List.{flat_map}
use Rattle.std.proofs.lemmas.Grind.{flat_map-append}
use Rattle.program_model.specs.declared.kinds.ClassId.{ClassId}
use Rattle.program_model.specs.declared.program.Method.{Method}
use Rattle.program_model.specs.declared.program.Program.{Program}
use Rattle.program_model.specs.Lookups.{class_at, method_at}
use Rattle.program_model.specs.SuperTests.{classes_above, is_class}
use Rattle.program_model.specs.Overrides.{declared_overrides, is_alike, joined_overrides, methods_of, methods_above, override_at, overrides_of}
use Rattle.class_overrides.specs.Cases.{override_case, override_cases}
use Rattle.class_overrides.specs.Steps.{cases_against, cases_for, declared_case}
use Rattle.class_overrides.proofs.Lists.{flat_map-flat_map}

pub declared_steps : (p : Program) (c : ClassId) (n : Method) → flat_map (override_case p) (declared_overrides p c n) ≡ flat_map (declared_case p n) (filter (is_alike p n) (methods_of p c))
declared_steps p c n = flat_map-flat_map (override_case p) (λ m. override_at n (method_at p m)) (filter (is_alike p n) (methods_of p c))

pub both_steps : (p : Program) (c : ClassId) (n : Method) → flat_map (override_case p) (overrides_of p c (Some n)) ≡ flat_map (override_case p) (declared_overrides p c n) ++ flat_map (override_case p) (joined_overrides p c n)
both_steps p c n = flat_map-append (override_case p) (declared_overrides p c n) (joined_overrides p c n)

pub all_steps : (p : Program) (c : ClassId) → override_cases p c ≡ flat_map (cases_against p c) (filter (λ d. not (is_class d c)) (classes_above c (class_at p c)))
all_steps p c =
    flat_map-flat_map (override_case p) (λ n. overrides_of p c (method_at p n)) (methods_above p c)
    ∙ flat_map-flat_map (cases_for p c) (methods_of p) (filter (λ d. not (is_class d c)) (classes_above c (class_at p c)))
