use Rattle.std.proofs.Common.{◌≡◌, drop}
use Rattle.choices_file.specs.Numbers.{digits_from}
use Rattle.choices_file.proofs.numbers.spelled.Given as goal

-- the digits to come, behind the number so far, spell what all of them spell
abbrev pub invariant-each : goal.invariant-each
invariant-each l = digits_from l.number (drop l.byte-index l.text) ≡ digits_from 0 l.text
