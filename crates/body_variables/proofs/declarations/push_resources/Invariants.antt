use Rattle.std.proofs.Common.{◌≡◌, ◌++◌, map, take}
use Rattle.java_syntax.specs.StatementTrees.{resource_of}
use Rattle.java_statement_rules.specs.Surroundings.{surroundings_of}
use Rattle.body_variables.specs.BodyVariables.{resource_variables}
use Rattle.body_variables.specs.Declarations.{variable_in}
use Rattle.body_variables.proofs.declarations.push_resources.Given as goal

abbrev pub invariant-loop-resource : goal.invariant-loop-resource
invariant-loop-resource l =
    map variable_in l.made.items ≡ map variable_in l.fn.made.items ++ resource_variables (surroundings_of l.scope) (map resource_of (take l.resource-index l.resources))
