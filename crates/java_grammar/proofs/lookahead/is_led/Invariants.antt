use Rattle.std.proofs.Common.{◌≡◌, drop}
use Rattle.java_grammar.specs.Lookahead.{led}
use Rattle.java_grammar.proofs.lookahead.is_led.Given as goal

abbrev pub invariant-loop-item : goal.invariant-loop-item
invariant-loop-item l = led l.items l.word ≡ led (drop l.item-index l.items) l.word
