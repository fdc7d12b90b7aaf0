use Rattle.std.proofs.Common.{◌≡◌, ◌++◌, map, take}
use Rattle.class_checks.specs.DoubleMembers.{names_among}
use Rattle.class_checks.specs.MemberKeys.{keyed_field, keyed_of}
use Rattle.class_checks.proofs.members.push_variables.Given as goal

abbrev pub invariant-loop-variable : goal.invariant-loop-variable
invariant-loop-variable l = map keyed_of l.keys.items ≡ map keyed_of l.fn.keys.items ++ map keyed_field (names_among (take l.variable-index l.variables))
