use Rattle.std.proofs.Common.{◌≡◌, map, drop}
use Rattle.java_lexer.specs.Words.{class_in, classes_of}
use Rattle.java_lexer.proofs.words.class_in.Given as goal

-- the rows so far are not the word's
abbrev pub invariant-loop-row : goal.invariant-loop-row
invariant-loop-row l = class_in (classes_of (map (λ row. (row.0.now, row.1, row.2)) l.table)) l.word ≡ class_in (classes_of (map (λ row. (row.0.now, row.1, row.2)) (drop l.row-index l.table))) l.word
