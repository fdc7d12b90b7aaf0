use Rattle.std.proofs.Common.{◌≡◌, ◌++◌, take}
use Rattle.java_call_rules.specs.Surroundings.{surroundings_of}
use Rattle.java_statement_rules.specs.CatchClauses.{classes_named}
use Rattle.java_statement_rules.proofs.catches.push_named.Given as goal

abbrev pub invariant-loop-name : goal.invariant-loop-name
invariant-loop-name l = l.classes.items ≡ l.fn.classes.items ++ classes_named (surroundings_of l.scope) (take l.name-index l.names)
