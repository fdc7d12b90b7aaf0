use Rattle.std.proofs.Common.{◌≡◌, ◌+◌, false, drop}
use Rattle.std.specs.Option.{option_map}
use Rattle.java_lexer.specs.Reading.{closing_quote}
use Rattle.java_lexer.proofs.literals.closing_quote.Given as goal

-- the quote that closes is sought in the bytes to come
abbrev pub invariant-loop-place : goal.invariant-loop-place
invariant-loop-place l =
    closing_quote l.quote false l.text ≡ option_map (λ n. l.place + n) (closing_quote l.quote l.escaped (drop l.place l.text))
