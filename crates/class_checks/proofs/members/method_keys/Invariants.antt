use Rattle.std.proofs.Common.{◌≡◌, map, take}
use Rattle.class_names.specs.Meanings.{unit_of}
use Rattle.class_declarations.specs.Members.{written_of}
use Rattle.class_checks.specs.DoubleMembers.{invocable}
use Rattle.class_checks.specs.MemberKeys.{keyed_method, keyed_of}
use Rattle.class_checks.proofs.members.method_keys.Given as goal

abbrev pub invariant-loop-tree : goal.invariant-loop-tree
invariant-loop-tree l = map keyed_of l.keys.items ≡ map (keyed_method l.names (unit_of l.scope)) (invocable (map written_of (take l.tree-index l.trees)))
