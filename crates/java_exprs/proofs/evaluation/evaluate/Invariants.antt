use Rattle.std.proofs.Common.{◌≡◌, drop, map, option_map, None}
use Rattle.java_syntax.specs.Derives.{lexeme_of, step_of}
use Rattle.java_values.specs.Values.{values_of}
use Rattle.java_exprs.specs.Evaluation.{evaluate}
use Rattle.java_exprs.proofs.evaluation.evaluate.Given as goal

abbrev pub invariant-loop-event : goal.invariant-loop-event
invariant-loop-event l = evaluate l.limit (map (step_of l.bytes) l.events) None (values_of l.fn.start.items) ≡ evaluate l.limit (map (step_of l.bytes) (drop l.event-index l.events)) (option_map (lexeme_of l.bytes) l.last) (values_of l.stack.items)
