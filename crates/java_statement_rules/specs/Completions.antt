-- Which statements can complete normally (JLS 14.22). Statements that are not reachable are not refused; they are taken to end
-- in no way.
use Rattle.std.specs.Prelude.{pos, ℤ, Bool, true, false, not, ◌&&◌, ◌||◌, Option, Some, None}
use Rattle.std.specs.Ordering.{int_eq}
use Rattle.program_model.specs.declared.kinds.VType.{VType}
use Rattle.java_conversions.specs.Types.{is_boolean}
use Rattle.java_typed_trees.specs.declared.facts.Facts.{Facts}
use Rattle.java_typed_trees.specs.Answers.{type_of}
use Rattle.java_statement_rules.specs.declared.completion.Completion.{Completion}

abbrev pub normal : Completion
normal = record { completes = true; breaks = false; continues = false }

-- of `return` and `throw`
abbrev pub abrupt : Completion
abrupt = record { completes = false; breaks = false; continues = false }

abbrev pub breaking : Completion
breaking = record { completes = false; breaks = true; continues = false }

abbrev pub continuing : Completion
continuing = record { completes = false; breaks = false; continues = true }

-- the second is reachable where the first can complete normally
abbrev pub and_then : Completion → Completion → Completion
and_then a b = record { completes = a.completes && b.completes; breaks = a.breaks || (a.completes && b.breaks); continues = a.continues || (a.completes && b.continues) }

-- both are reachable, and one of them runs
abbrev pub one_of : Completion → Completion → Completion
one_of a b = record { completes = a.completes || b.completes; breaks = a.breaks || b.breaks; continues = a.continues || b.continues }

-- ---- loops

abbrev pub is_one : Option ℤ → Bool
is_one None = false
is_one (Some n) = int_eq n (pos 1)

abbrev pub is_truth_value : Option VType → Bool
is_truth_value None = false
is_truth_value (Some t) = is_boolean t

-- a constant expression with the value `true` (JLS 15.29)
abbrev pub is_always_true : Facts → Bool
is_always_true e = is_truth_value (type_of e) && is_one e.constant

-- a loop's own jumps end in it
abbrev pub loop_that : Bool → Completion
loop_that completes = record { completes = completes; breaks = false; continues = false }

-- `while` and `for`, whose condition is always true or not: where it is, only a `break` ends the loop
abbrev pub loop_completion : Bool → Completion → Completion
loop_completion always body = loop_that (not always || body.breaks)

-- `do`: the condition is reached where the body can complete normally or goes on
abbrev pub do_completion : Bool → Completion → Completion
do_completion always body = loop_that (((body.completes || body.continues) && not always) || body.breaks)

-- ---- try

-- with a `finally` that ends so: what runs before it is done only where it can complete normally
abbrev pub before_finally : Completion → Completion → Completion
before_finally before last = and_then last before
