use Rattle.std.proofs.Common.{◌≡◌, map, drop}
use Rattle.java_lexer.specs.Words.{is_listed, texts_of}
use Rattle.java_lexer.proofs.words.is_in.Given as goal

-- the rows so far are not the word's
abbrev pub invariant-loop-row : goal.invariant-loop-row
invariant-loop-row l =
    is_listed (texts_of (map (λ row. (row.0.now, row.1, row.2)) l.table)) l.word ≡ is_listed (texts_of (map (λ row. (row.0.now, row.1, row.2)) (drop l.row-index l.table))) l.word
