-- The programs in which the parameter of each catch clause that is not refused has a type (JLS 14.20).
use Rattle.std.specs.Prelude.{◌≡◌, true, Some}
use Rattle.program_model.specs.declared.kinds.ClassId.{ClassId}
use Rattle.program_model.specs.declared.program.Program.{Program}
use Rattle.program_model.specs.SuperTests.{is_under}
use Rattle.java_conversions.specs.Conditionals.{least_class}
use Rattle.java_statement_rules.specs.CatchClauses.{is_exception_class}

-- exceptions are objects, and any two classes of objects have a least upper bound, which is one too (JLS 4.3.2, 4.10.4)
pub record HasCatchTypes (p : Program) : Type 0 where
  pub exceptions : (c : ClassId) → is_exception_class p c ≡ true → is_under p c p.core.object ≡ true
  pub least : (a b : ClassId) → is_under p a p.core.object ≡ true → is_under p b p.core.object ≡ true → (c : ClassId) × (least_class p a b ≡ Some c) × (is_under p c p.core.object ≡ true)
