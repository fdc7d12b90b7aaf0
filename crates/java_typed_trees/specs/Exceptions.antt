-- The checked exceptions of calls and of instance creations, which must be caught or declared (JLS 11.2).
use Rattle.std.specs.Prelude.{Bool, not, cond, ◌&&◌, Option, Some, None, List, []}
use Rattle.std.specs.List.{list_any}
use Rattle.rlc_base.specs.declared.place.Pos.{Pos}
use Rattle.rlc_base.specs.declared.code.Code.TheVariants as codes_of
use Rattle.rlc_base.specs.declared.faults.Refusal.{Refusal}
use Rattle.program_model.specs.declared.kinds.ClassId.{ClassId}
use Rattle.program_model.specs.declared.kinds.MethodId.{MethodId}
use Rattle.program_model.specs.declared.program.Program.{Program}
use Rattle.program_model.specs.declared.program.Method.{Method}
use Rattle.program_model.specs.Lookups.{method_at}
use Rattle.program_model.specs.SuperTests.{is_under}
use Rattle.java_typed_trees.specs.declared.shapes.Shape.{Shape}
use Rattle.java_typed_trees.specs.declared.shapes.Shape.TheVariants as shapes
use Rattle.java_typed_trees.specs.Answers.{refused}

-- Throwable and all its subclasses, but for those of RuntimeException and of Error (JLS 11.1.1)
abbrev pub is_checked : Program → ClassId → Bool
is_checked p c = is_under p c p.core.throwable && not (is_under p c p.core.runtime_exception) && not (is_under p c p.core.error)

-- the class, or one above it, is caught or declared here: `covered` are the classes of the catch clauses around the place
-- and of the throws clause
abbrev pub is_covered : Program → List ClassId → ClassId → Bool
is_covered p covered c = list_any (λ d. is_under p c d) covered

abbrev pub is_undeclared : Program → List ClassId → ClassId → Bool
is_undeclared p covered c = is_checked p c && not (is_covered p covered c)

abbrev pub throws_of : Option Method → List ClassId
throws_of None = []
throws_of (Some m) = m.sig.throws.items

-- the throws clause of a method or constructor
abbrev pub thrown_by : Program → MethodId → List ClassId
thrown_by p m = throws_of (method_at p m)

-- the refusal at a place where these classes may be thrown
abbrev pub undeclared_cases : Program → List ClassId → List ClassId → Pos → List Refusal
undeclared_cases p covered thrown place = cond (list_any (λ c. is_undeclared p covered c) thrown) (refused codes_of.UndeclaredException place) []

-- the classes that an expression of the shape may throw by a throws clause (JLS 11.2.1): its own, without its parts
abbrev pub classes_thrown : Program → Shape → List ClassId
classes_thrown p (shapes.Call form m) = thrown_by p m
classes_thrown p (shapes.NewObject c m) = thrown_by p m
classes_thrown p s = []
