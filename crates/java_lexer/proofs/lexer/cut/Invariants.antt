use Rattle.std.proofs.Common.{◌≤◌, ◌-◌, ◌++◌, ℕ, List, length, take}
use Rattle.rlc_base.specs.declared.code.Code.{Code}
use Rattle.java_syntax.specs.declared.tokens.Token.{Token}
use Rattle.java_lexer.specs.Cut.{Cut, Stuck}
use Rattle.java_lexer.proofs.PlaceLaws.{IsBehind}
use Rattle.java_lexer.proofs.lexer.cut.Given as goal

-- the tokens so far, and any into which the bytes to come are cut, are a cut of all; where those are stuck all are
abbrev pub invariant-loop-at : goal.invariant-loop-at
invariant-loop-at l = record {
  within : l.at ≤ length l.bytes;
  behind : IsBehind (take l.at l.bytes) l.cursor;
  cuts : (tokens : List Token) → Cut l.file l.bytes l.at tokens → Cut l.file l.bytes 0 (l.tokens.items ++ tokens);
  stuck : (place : ℕ) (code : Code) → Stuck l.bytes l.at place code → Stuck l.bytes 0 place code;
}

abbrev pub decreases-loop-at : goal.decreases-loop-at
decreases-loop-at l = length l.bytes - l.at
