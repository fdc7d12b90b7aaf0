use Rattle.std.proofs.Common.{◌≡◌, ◌+◌, drop}
use Rattle.std.specs.Option.{option_map}
use Rattle.java_lexer.specs.Tokens.{comment_end}
use Rattle.java_lexer.proofs.fronts.comment_end.Given as goal

-- the end is sought in the bytes to come
abbrev pub invariant-loop-place : goal.invariant-loop-place
invariant-loop-place l = comment_end l.text ≡ option_map (λ n. l.place + n) (comment_end (drop l.place l.text))
