use Rattle.std.proofs.Common.{◌≡◌, ◌-◌}
use Rattle.obligation_facts.specs.Facts.{without_fields, without_fields_from}
use Rattle.obligation_facts.proofs.facts.without_fields.Given as goal

abbrev pub invariant-loop-k : goal.invariant-loop-k
invariant-loop-k l = without_fields_from l.left l.k (16 - l.k) ≡ without_fields l.fn.held
