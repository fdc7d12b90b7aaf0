use Rattle.std.proofs.Common.{◌≡◌, false, drop}
use Rattle.java_lexer.specs.Reading.{has_known_escapes}
use Rattle.java_lexer.proofs.literals.has_known_escapes.Given as goal

-- the escapes so far are known
abbrev pub invariant-loop-byte : goal.invariant-loop-byte
invariant-loop-byte l = has_known_escapes false l.text ≡ has_known_escapes l.escaped (drop l.byte-index l.text)
