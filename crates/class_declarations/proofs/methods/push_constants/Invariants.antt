use Rattle.std.proofs.Common.{◌≡◌, ◌++◌, map, take}
use Rattle.class_declarations.specs.Members.{constants_among, written_of}
use Rattle.class_declarations.proofs.methods.push_constants.Given as goal

abbrev pub invariant-loop-variable : goal.invariant-loop-variable
invariant-loop-variable l = map written_of l.all.items ≡ map written_of l.fn.all.items ++ constants_among l.declaration (take l.variable-index l.declaration.variables.items)
