-- What the typing of bodies asks of a table beside that it is valid.
use Rattle.std.specs.Prelude.{◌≡◌}
use Rattle.program_model.specs.declared.kinds.ClassId.{ClassId}
use Rattle.program_model.specs.declared.program.Program.{Program}
use Rattle.program_model.specs.Hierarchy.{IsUnder}

-- no other class is under String, since that is final, and it is no class of exceptions (JLS 4.3.3, 8.1.1.2, 11.1.1)
pub record HasFinalString (p : Program) : Type 0 where
  pub final : (c : ClassId) → IsUnder p c p.core.string → c ≡ p.core.string
  pub no_exception : IsUnder p p.core.string p.core.throwable → ⊥
