use Rattle.std.proofs.Common.{◌≡◌, drop}
use Rattle.java_lexer.specs.Literals.{value_from}
use Rattle.java_lexer.proofs.literals.is_up_to.Given as goal

-- the bytes to come, behind the number so far, spell what all of them spell
abbrev pub invariant-loop-byte : goal.invariant-loop-byte
invariant-loop-byte l = value_from l.base l.number (drop l.byte-index l.text) ≡ value_from l.base 0 l.text
