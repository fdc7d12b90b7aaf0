use Rattle.std.proofs.Common.{◌≡◌, ◌-◌}
use Rattle.obligation_facts.specs.Facts.{without_variables}
use Rattle.obligation_facts.proofs.facts.without_variables.Given as goal

abbrev pub invariant-loop-variable : goal.invariant-loop-variable
invariant-loop-variable l = without_variables l.body l.scope l.left l.variable (160 - l.variable) ≡ without_variables l.body l.scope l.fn.held 0 160
