use Rattle.std.proofs.Common.{◌≡◌, map, drop}
use Rattle.std.specs.Prelude.{max}
use Rattle.java_lexer.specs.Words.{longest_listed, texts_of}
use Rattle.java_lexer.proofs.words.longest_listed.Given as goal

-- the longest so far and that of the words to come are that of all
abbrev pub invariant-loop-row : goal.invariant-loop-row
invariant-loop-row l =
    max l.longest (longest_listed (texts_of (map (λ row. (row.0.now, row.1, row.2)) (drop l.row-index l.table))) l.text) ≡ longest_listed (texts_of (map (λ row. (row.0.now, row.1, row.2)) l.table)) l.text
