use Rattle.std.proofs.Common.{◌≡◌, ◌-◌}
use Rattle.obligation_facts.specs.Facts.{has_field, has_field_from}
use Rattle.obligation_facts.proofs.facts.has_field.Given as goal

abbrev pub invariant-loop-k : goal.invariant-loop-k
invariant-loop-k l = has_field_from l.held l.k (16 - l.k) ≡ has_field l.held
