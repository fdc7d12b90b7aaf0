use Rattle.std.proofs.Common.{◌≡◌, drop}
use Rattle.java_grammar.specs.Lookahead.{find}
use Rattle.java_grammar.proofs.lookahead.first_led.Given as goal

abbrev pub invariant-loop-production : goal.invariant-loop-production
invariant-loop-production l = find l.word l.productions ≡ find l.word (drop l.production-index l.productions)
