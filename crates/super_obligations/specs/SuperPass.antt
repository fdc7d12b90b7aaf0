-- The pass over super types and throws clauses.
use Rattle.std.specs.Prelude.{◌⊎◌, List, Contains}
use Rattle.rlc_base.specs.declared.faults.Refusal.{Refusal}
use Rattle.program_model.specs.declared.program.CoreClasses.{CoreClasses}
use Rattle.class_order.specs.Declarations.{Declaration}
use Rattle.super_checks.specs.SuperCases.{IsCoreCase, IsThrowsCase, kind_cases}
use Rattle.super_obligations.specs.Obligations.{IsObligationCase}

-- a refusal of the pass over super types and throws clauses
abbrev pub IsSuperCase : List Declaration → CoreClasses → Refusal → Type 0
IsSuperCase order core r =
    Contains (kind_cases order core) r ⊎ (IsThrowsCase order core r ⊎ (IsObligationCase order core r ⊎ IsCoreCase order core r))
