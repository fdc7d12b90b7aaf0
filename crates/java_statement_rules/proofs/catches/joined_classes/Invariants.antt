use Rattle.std.proofs.Common.{◌≡◌, drop}
use Rattle.java_call_rules.specs.Surroundings.{surroundings_of}
use Rattle.java_statement_rules.specs.CatchClauses.{caught_classes, joined_classes}
use Rattle.java_statement_rules.proofs.catches.joined_classes.Given as goal

abbrev pub invariant-loop-name : goal.invariant-loop-name
invariant-loop-name l = joined_classes (surroundings_of l.scope).context.program l.joined (caught_classes (surroundings_of l.scope) (drop l.name-index l.names)) ≡ joined_classes (surroundings_of l.scope).context.program l.fn.first (caught_classes (surroundings_of l.scope) l.names)
