use Rattle.std.proofs.Common.{◌≡◌, drop}
use Rattle.java_grammar.specs.Lookahead.{is_in}
use Rattle.java_grammar.proofs.lookahead.is_one_of.Given as goal

abbrev pub invariant-loop-listed : goal.invariant-loop-listed
invariant-loop-listed l = is_in l.words l.word ≡ is_in (drop l.listed-index l.words) l.word
