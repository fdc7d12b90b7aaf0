use Rattle.std.proofs.Common.{◌≡◌, ◌+◌, ◌-◌, ◌<◌, ◌^◌, length, drop}
use Rattle.java_lexer.specs.Reading.{moved_past}
use Rattle.java_lexer.proofs.places.Cursor.moved_past.Given as goal

-- the bytes to come lead to where all lead, and there is room for them
abbrev pub invariant-loop-byte : goal.invariant-loop-byte
invariant-loop-byte l = record {
  leads : moved_past l.cursor (drop l.byte-index l.bytes) ≡ moved_past l.fn.self l.bytes;
  line : l.cursor.line + (length l.bytes - l.byte-index) < 2 ^ 32;
  col : l.cursor.col + (length l.bytes - l.byte-index) < 2 ^ 32;
}
