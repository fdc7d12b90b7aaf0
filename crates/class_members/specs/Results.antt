-- Which results (JLS 8.4.5) and which throws clauses (JLS 8.4.8.3) may stand for which.
use Rattle.std.specs.Prelude.{Bool, true, false, ◌&&◌, ◌||◌, not, Option, Some, None, List}
use Rattle.std.specs.List.{list_all, list_any}
use Rattle.program_model.specs.declared.kinds.ClassId.{ClassId}
use Rattle.program_model.specs.declared.kinds.VType.{VType}
use Rattle.program_model.specs.declared.program.Method.{Method}
use Rattle.program_model.specs.declared.program.Program.{Program}
use Rattle.program_model.specs.Overrides.{is_type}
use Rattle.program_model.specs.SuperTests.{is_under}
use Rattle.java_conversions.specs.Conversions.{fits}
use Rattle.java_conversions.specs.Types.{is_reference}

-- the results are of one type, or are none; or the first is a reference type and a subtype of the second
abbrev pub is_result_under : Program → Option VType → Option VType → Bool
is_result_under p None None = true
is_result_under p None (Some u) = false
is_result_under p (Some t) None = false
is_result_under p (Some t) (Some u) = is_type t u || (is_reference t && is_reference u && fits p t u)

-- exceptions of the class are checked (JLS 11.1.1)
abbrev pub is_checked : Program → ClassId → Bool
is_checked p c = not (is_under p c p.core.runtime_exception) && not (is_under p c p.core.error)

-- the throws clause has the class or one above it
abbrev pub covers : Program → List ClassId → ClassId → Bool
covers p clause c = list_any (λ d. is_under p c d) clause

abbrev pub may_throw : Program → List ClassId → ClassId → Bool
may_throw p clause c = not (is_checked p c) || covers p clause c

-- each checked class of the throws clause of `m` is covered by that of `n`
abbrev pub throws_no_more : Program → Method → Method → Bool
throws_no_more p m n = list_all (may_throw p n.sig.throws.items) m.sig.throws.items
