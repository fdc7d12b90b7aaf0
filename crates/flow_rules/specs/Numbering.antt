-- Facts whose origin has a number in a list of origins.
use Rattle.std.specs.Prelude.{ℕ}
use Rattle.control_actions.specs.declared.fact.Fact.{Fact}
use Rattle.control_actions.specs.declared.fact.Outcome.{Outcome}
use Rattle.control_actions.specs.declared.fact.Outcome.TheVariants.{Next, Gone, Fault}

abbrev pub numbered : ℕ → Fact → Fact
numbered n f = record f { origin = n }

abbrev pub numbered_outcome : ℕ → Outcome → Outcome
numbered_outcome n (Next f) = Next (numbered n f)
numbered_outcome n Gone = Gone
numbered_outcome n (Fault rule names) = Fault rule names
