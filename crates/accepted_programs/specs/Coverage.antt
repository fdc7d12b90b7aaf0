-- Checked exceptions are caught or declared (JLS 11.1.1, 11.2, 11.2.3).
use Rattle.std.specs.Prelude.{◌≡◌, ◌&&◌, not, Bool, false, Some, List}
use Rattle.std.specs.List.{list_any}
use Rattle.program_model.specs.declared.kinds.BodyId.{BodyId}
use Rattle.program_model.specs.declared.kinds.ClassId.{ClassId}
use Rattle.program_model.specs.declared.program.Program.{Program}
use Rattle.program_model.specs.declared.tree.Body.{Body}
use Rattle.program_model.specs.Lookups.{body_at}
use Rattle.program_model.specs.SuperTests.{is_under}
use Rattle.accepted_programs.specs.Exceptions.{body_exceptions, throws_clause}

-- Throwable and all its subclasses, but for those of RuntimeException and of Error (JLS 11.1.1)
abbrev pub is_checked : Program → ClassId → Bool
is_checked p c = is_under p c p.core.throwable && not (is_under p c p.core.runtime_exception) && not (is_under p c p.core.error)

-- the class, or one above it, stands in the throws clause
abbrev pub is_declared : Program → List ClassId → ClassId → Bool
is_declared p clause c = list_any (λ d. is_under p c d) clause

abbrev pub is_undeclared : Program → List ClassId → ClassId → Bool
is_undeclared p clause c = is_checked p c && not (is_declared p clause c)

-- the body can throw a checked exception that its method or constructor does not declare
abbrev pub throws_undeclared : Program → Body → Bool
throws_undeclared p b = list_any (λ c. is_undeclared p (throws_clause p b.method) c) (body_exceptions p b)

-- no body of the program throws a checked exception that is neither caught nor declared
abbrev pub CoversItsExceptions : Program → Type 0
CoversItsExceptions p = (n : BodyId) (b : Body) → body_at p n ≡ Some b → throws_undeclared p b ≡ false
