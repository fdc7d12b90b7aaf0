use Rattle.std.proofs.Common.{◌≡◌, map, take}
use Rattle.class_names.specs.ClassNames.{rows_in}
use Rattle.class_headers.specs.SuperTypes.{all_direct, supers_of}
use Rattle.class_headers.proofs.supers.all_direct.Given as goal

abbrev pub invariant-loop-one : goal.invariant-loop-one
invariant-loop-one l = rows_in l.all.items ≡ all_direct l.object (map supers_of (take l.one-index l.supers))
