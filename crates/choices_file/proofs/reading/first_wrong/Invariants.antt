use Rattle.std.proofs.Common.{◌≡◌, ◌+◌, drop, true}
use Rattle.choices_file.specs.Files.{first_wrong}
use Rattle.choices_file.proofs.reading.first_wrong.Given as goal

-- the lines to come are judged as they stand behind those before
abbrev pub invariant-each : goal.invariant-each
invariant-each l = record {
  number : l.number ≡ l.line-index;
  lines : first_wrong l.opens (l.line-index + 1) (drop l.line-index l.lines) ≡ first_wrong true 1 l.lines;
}
