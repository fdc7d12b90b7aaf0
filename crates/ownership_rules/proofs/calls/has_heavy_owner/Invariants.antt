use Rattle.std.proofs.Common.{◌≡◌, drop}
use Rattle.ownership_rules.specs.MovesAtCalls.{is_heavy_owner, owners_from}
use Rattle.ownership_rules.proofs.calls.has_heavy_owner.Given as goal

abbrev pub invariant-loop-index : goal.invariant-loop-index
invariant-loop-index l =
    is_heavy_owner l.p l.class (owners_from l.action l.held l.index (drop l.index l.parameters))
    ≡ is_heavy_owner l.p l.class (owners_from l.action l.held 0 l.parameters)
