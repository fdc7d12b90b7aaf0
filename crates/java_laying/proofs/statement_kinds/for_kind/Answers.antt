-- The three parts of the list, one behind another, are the list.
use Rattle.std.proofs.Common.{arith}
use Rattle.std.proofs.lemmas.List.{append_assoc, take-append-drop}
use Rattle.std.proofs.lemmas.Grind.{common_steps}
use Rattle.java_laying.proofs.statement_kinds.for_kind.Goals as goal

pub returns-clause-expressions : goal.returns-clause-expressions
returns-clause-expressions c = grind (arith, common_steps, append_assoc, take-append-drop)
