use Rattle.std.proofs.Common.{◌≡◌, map, take}
use Rattle.choices_file.specs.Lines.{meaning}
use Rattle.choices_file.proofs.reading.meanings.Given as goal

abbrev pub invariant-each : goal.invariant-each
invariant-each l = l.said.items ≡ map (λ line. meaning line.now) (take l.line-index l.line-items)
