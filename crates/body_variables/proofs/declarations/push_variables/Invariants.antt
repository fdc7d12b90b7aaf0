use Rattle.std.proofs.Common.{◌≡◌, ◌++◌, map, take}
use Rattle.std.specs.List.{flat_map}
use Rattle.java_syntax.specs.AnnotationTrees.{modifier_of}
use Rattle.java_syntax.specs.StatementTrees.{variable_of}
use Rattle.body_variables.specs.Declarations.{declared, variable_in}
use Rattle.body_variables.proofs.declarations.push_variables.Given as goal

abbrev pub invariant-loop-variable : goal.invariant-loop-variable
invariant-loop-variable l =
    map variable_in l.made.items ≡ map variable_in l.fn.made.items ++ flat_map (λ v. declared (map modifier_of l.modifiers) v.name l.vtype) (map variable_of (take l.variable-index l.variables))
