use Rattle.std.proofs.Common.{◌≡◌, ◌++◌, drop}
use Rattle.choices_file.specs.Files.{chosen_in}
use Rattle.choices_file.proofs.reading.chosen_in.Given as goal

abbrev pub invariant-each : goal.invariant-each
invariant-each l = l.list.items ++ chosen_in (drop l.line-index l.lines) ≡ chosen_in l.lines
