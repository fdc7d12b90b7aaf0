-- What is made, and what is still to be made, are all.
use Rattle.std.proofs.Common.{◌≡◌, ◌++◌, map, drop, length}
use Rattle.body_variables.specs.BodyVariables.{parameter_variables}
use Rattle.body_variables.specs.Declarations.{variable_in}
use Rattle.body_variables.proofs.declarations.push_parameters.Given as goal

abbrev pub invariant-loop-written : goal.invariant-loop-written
invariant-loop-written l =
    map variable_in l.made.items ++ parameter_variables (drop (length l.yielded) l.parameters) (drop (length l.yielded) l.signature) ≡ map variable_in l.fn.made.items ++ parameter_variables l.parameters l.signature
