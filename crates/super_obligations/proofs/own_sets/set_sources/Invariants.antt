use Rattle.std.proofs.Common.{◌≡◌, map, take}
use Rattle.class_names.specs.ClassNames.{rows_in}
use Rattle.class_headers.specs.SuperTypes.{supers_of}
use Rattle.super_obligations.specs.Obligations.{set_sources}
use Rattle.super_obligations.proofs.own_sets.set_sources.Given as goal

abbrev pub invariant-loop-number : goal.invariant-loop-number
invariant-loop-number l = rows_in l.all.items ≡ set_sources (take l.number l.owns) (map supers_of (take l.number l.supers))
