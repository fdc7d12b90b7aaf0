use Rattle.std.proofs.Common.{◌≡◌, ◌++◌, length, drop}
use Rattle.std.specs.Prelude.{zip}
use Rattle.source_classes.specs.Parameters.{cases_behind, parameters, parameters_cases, parameters_from}
use Rattle.source_classes.proofs.declared_parameters.parameters.Given as goal

abbrev pub invariant-loop-i : goal.invariant-loop-i
invariant-loop-i l = record {
  locals : l.locals.items ++ parameters_from (length l.locals.items) (drop l.i (zip l.written l.signatures)) ≡ parameters l.written l.signatures;
  cases : l.refusals.items ++ cases_behind l.locals.items (drop l.i (zip l.written l.signatures)) ≡ l.fn.refusals.items ++ parameters_cases l.written l.signatures;
}
