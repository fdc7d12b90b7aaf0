use Rattle.std.proofs.Common.{◌≡◌, take}
use Rattle.std.specs.List.{list_all}
use Rattle.must_call_sets.specs.OverrideCases.{keeps}
use Rattle.override_rules.proofs.bad_overrides.keeps_all.Given as goal

abbrev pub invariant-loop-other : goal.invariant-loop-other
invariant-loop-other l = l.kept ≡ list_all (keeps l.promises) (take l.other-index l.others)
