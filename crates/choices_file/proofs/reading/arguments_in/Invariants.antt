use Rattle.std.proofs.Common.{◌≡◌, drop}
use Rattle.choices_file.specs.Files.{arguments_in}
use Rattle.choices_file.proofs.reading.arguments_in.Given as goal

abbrev pub invariant-each : goal.invariant-each
invariant-each l = arguments_in (drop l.line-index l.lines) ≡ arguments_in l.lines
