use Rattle.std.proofs.Common.{◌≡◌, ◌+◌, ◌-◌}
use Rattle.obligation_facts.specs.Facts.{without_temps}
use Rattle.obligation_facts.proofs.facts.without_temps.Given as goal

abbrev pub invariant-loop-depth : goal.invariant-loop-depth
invariant-loop-depth l = without_temps l.left l.depth (l.fn.d + l.fn.n - l.depth) ≡ without_temps l.fn.held l.fn.d l.fn.n
