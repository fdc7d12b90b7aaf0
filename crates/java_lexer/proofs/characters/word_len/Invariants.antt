use Rattle.std.proofs.Common.{◌≤◌, ◌-◌, length, take}
use Rattle.java_lexer.specs.Characters.{is_identifier_part, IsRun}
use Rattle.java_lexer.proofs.characters.word_len.Given as goal

abbrev pub invariant-loop-character : goal.invariant-loop-character
invariant-loop-character l = record {
  within : l.len ≤ length l.text;
  run : IsRun is_identifier_part (take l.len l.text);
}

abbrev pub decreases-loop-character : goal.decreases-loop-character
decreases-loop-character l = length l.text - l.len
