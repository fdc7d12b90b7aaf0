-- Who owns an object that has an obligation.
use Rattle.std.specs.Prelude.{Bool, ◌&&◌}
use Rattle.program_model.specs.declared.program.Program.{Program}
use Rattle.control_actions.specs.declared.fact.Fact.{Fact}
use Rattle.control_actions.specs.declared.fact.Origin.{Origin}
use Rattle.obligation_facts.specs.Facts.{is_own}
use Rattle.must_call_sets.specs.MustCallSets.{is_heavy_class}

-- The frame owns the object. An object that has an obligation only by the declared type that it moves to is not owned: a
-- downcast does not make a value owned.
abbrev pub is_owned : Program → Origin → Fact → Bool
is_owned p o f = is_heavy_class p o.class && is_own f.mode
