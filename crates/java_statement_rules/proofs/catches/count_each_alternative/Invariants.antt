use Rattle.std.proofs.Common.{◌≡◌, ◌++◌, take}
use Rattle.java_call_rules.specs.Surroundings.{surroundings_of}
use Rattle.java_statement_rules.specs.CatchClauses.{each_alternative_cases}
use Rattle.java_statement_rules.proofs.catches.count_each_alternative.Given as goal

abbrev pub invariant-loop-name : goal.invariant-loop-name
invariant-loop-name l = l.refusals.items ≡ l.fn.refusals.items ++ each_alternative_cases (surroundings_of l.scope) l.pos (take l.name-index l.names)
