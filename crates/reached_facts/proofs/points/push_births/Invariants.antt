use Rattle.std.proofs.Common.{◌≡◌, ◌++◌, take}
use Rattle.reached_facts.specs.Points.{birth_points}
use Rattle.reached_facts.proofs.points.push_births.Given as goal

abbrev pub invariant-births : goal.invariant-births
invariant-births l = l.points.items ≡ l.fn.points.items ++ birth_points l.origins.keys l.node l.source (take l.birth-index l.births)
