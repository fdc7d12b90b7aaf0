use Rattle.std.proofs.Common.{◌≡◌, take}
use Rattle.class_names.specs.Meanings.{unit_of}
use Rattle.class_headers.specs.SuperTypes.{super_interfaces}
use Rattle.class_headers.proofs.supers.classes_named.Given as goal

abbrev pub invariant-loop-name : goal.invariant-loop-name
invariant-loop-name l = l.classes.items ≡ super_interfaces l.names (unit_of l.scope) (take l.name-index l.written)
