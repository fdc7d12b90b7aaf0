use Rattle.std.proofs.Common.{◌≡◌, ◌≤◌, min, drop}
use Rattle.flow_certs.specs.Numbers.{digits_from, largest}
use Rattle.flow_certs.proofs.numbers.spelled.Given as goal

-- the digits to come, behind the number so far, spell what all of them spell
abbrev pub invariant-each : goal.invariant-each
invariant-each l = record {
  fits : l.number ≤ largest;
  same : min (digits_from l.number (drop l.byte-index l.text)) largest ≡ min (digits_from 0 l.text) largest;
}
