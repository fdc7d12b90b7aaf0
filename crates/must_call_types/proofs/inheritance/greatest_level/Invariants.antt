use Rattle.std.proofs.Common.{ℕ, ◌<◌, ◌≤◌, length, get_or}
use Rattle.program_model.specs.declared.program.Class.{Class}
use Rattle.must_call_types.proofs.inheritance.greatest_level.Given as goal

abbrev pub invariant-loop-class : goal.invariant-loop-class
invariant-loop-class l = (j : ℕ) (k : Class) → j < l.class-index → length (get_or l.classes j k).above.items ≤ l.greatest
