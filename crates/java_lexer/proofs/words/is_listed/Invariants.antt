use Rattle.std.proofs.Common.{◌≡◌, drop}
use Rattle.std.specs.List.{list_any}
use Rattle.std.specs.Str.{bytes_eq}
use Rattle.java_lexer.proofs.words.is_listed.Given as goal

-- the words so far are not the word
abbrev pub invariant-loop-listed : goal.invariant-loop-listed
invariant-loop-listed l =
    list_any (λ listed. bytes_eq listed.now l.word) l.words ≡ list_any (λ listed. bytes_eq listed.now l.word) (drop l.listed-index l.words)
