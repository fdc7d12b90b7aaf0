use Rattle.std.proofs.Common.{◌≡◌, ◌++◌, map, take}
use Rattle.class_order.specs.Declarations.{declaration_of}
use Rattle.class_declarations.specs.Members.{written_by_all, written_of}
use Rattle.class_declarations.proofs.methods.push_members.Given as goal

abbrev pub invariant-loop-member : goal.invariant-loop-member
invariant-loop-member l = map written_of l.all.items ≡ map written_of l.fn.all.items ++ written_by_all l.names (declaration_of l.declared) (take l.member-index l.members)
