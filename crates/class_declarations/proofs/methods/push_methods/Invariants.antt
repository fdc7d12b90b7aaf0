use Rattle.std.proofs.Common.{◌≡◌, ◌++◌, map, take}
use Rattle.class_order.specs.Declarations.{declaration_of}
use Rattle.class_declarations.specs.Members.{methods_written, written_method_of, written_of}
use Rattle.class_declarations.proofs.methods.push_methods.Given as goal

abbrev pub invariant-loop-tree : goal.invariant-loop-tree
invariant-loop-tree l = map written_method_of l.all.items ≡ map written_method_of l.fn.all.items ++ methods_written l.class (declaration_of l.declared) (map written_of (take l.tree-index l.trees))
