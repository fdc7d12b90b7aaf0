use Rattle.std.proofs.Common.{◌≡◌, drop}
use Rattle.ownership_rules.specs.Births.{parameter_births}
use Rattle.ownership_rules.specs.Picks.{pick}
use Rattle.ownership_rules.proofs.births_at_entry.pick_parameter.Given as goal

abbrev pub invariant-loop-index : goal.invariant-loop-index
invariant-loop-index l =
    pick (parameter_births l.p l.body l.sig l.index (drop l.index l.sig.params.items)) l.left
    ≡ pick (parameter_births l.p l.body l.sig 0 l.sig.params.items) l.k
