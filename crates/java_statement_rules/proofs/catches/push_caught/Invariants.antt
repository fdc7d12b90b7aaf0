use Rattle.std.proofs.Common.{◌≡◌, ◌++◌, take}
use Rattle.java_call_rules.specs.Surroundings.{surroundings_of}
use Rattle.java_statement_rules.specs.CatchClauses.{caught_by}
use Rattle.java_statement_rules.proofs.catches.push_caught.Given as goal

abbrev pub invariant-loop-name : goal.invariant-loop-name
invariant-loop-name l = l.caught.items ≡ l.fn.caught.items ++ caught_by (surroundings_of l.scope) (take l.name-index l.names)
