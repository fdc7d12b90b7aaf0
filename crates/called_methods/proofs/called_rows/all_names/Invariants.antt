use Rattle.std.proofs.Common.{◌≡◌}
use Rattle.called_methods.specs.CalledRows.{names_below}
use Rattle.called_methods.proofs.called_rows.all_names.Given as goal

abbrev pub invariant-loop-number : goal.invariant-loop-number
invariant-loop-number l = l.names ≡ names_below l.number
