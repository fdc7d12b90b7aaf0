use Rattle.std.proofs.Common.{◌≡◌, ◌<◌, ◌^◌, drop}
use Rattle.java_lexer.specs.Literals.{value_from}
use Rattle.java_literals.proofs.numbers.number_of.Given as goal

-- the digits to come, behind the number so far, spell what all of them spell
abbrev pub invariant-each : goal.invariant-each
invariant-each l = record {
  spelled : value_from l.base l.number (drop l.byte-index l.digits) ≡ value_from l.base 0 l.digits;
  fits : l.number < 2 ^ 64;
}
