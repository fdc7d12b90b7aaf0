use Rattle.std.proofs.Common.{◌≡◌, drop}
use Rattle.ownership_rules.specs.MovesAtCalls.{owners_from}
use Rattle.ownership_rules.proofs.calls.first_owner.Given as goal

abbrev pub invariant-loop-index : goal.invariant-loop-index
invariant-loop-index l = owners_from l.action l.held l.index (drop l.index l.parameters) ≡ owners_from l.action l.held 0 l.parameters
