use Rattle.std.proofs.Common.{◌∷◌, [], take}
use Rattle.java_syntax.specs.declared.symbols.Item.TheVariants.{Read}
use Rattle.java_syntax.specs.Derives.{at_start}
use Rattle.java_grammar.specs.Reached.{Holds, Anything, lexemes_of}
use Rattle.java_grammar.proofs.machine.derive.Given as goal

abbrev pub invariant-loop-at : goal.invariant-loop-at
invariant-loop-at l = Holds l.bytes (at_start l.is_stub) (Read l.fn.start ∷ []) (lexemes_of l.bytes (take l.at l.tokens)) Anything l.machine
