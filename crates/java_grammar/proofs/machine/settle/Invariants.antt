use Rattle.std.proofs.Common.{List}
use Rattle.java_syntax.specs.declared.symbols.Item.{Item}
use Rattle.java_syntax.specs.Derives.{Lexeme, Surroundings}
use Rattle.java_grammar.specs.Reached.{StartsWith, Holds, IsNoAction, to_come}
use Rattle.java_grammar.proofs.Effort.{effort}
use Rattle.java_grammar.proofs.machine.settle.Given as goal

abbrev pub invariant-loop-symbol : goal.invariant-loop-symbol
invariant-loop-symbol l = record {
  none : IsNoAction (to_come l.machine);
  held : (o : Surroundings) (start : List Item) (used : List Lexeme) → Holds l.bytes o start used (StartsWith l.next) l.fn.machine → Holds l.bytes o start used (StartsWith l.next) l.machine;
}

abbrev pub decreases-loop-symbol : goal.decreases-loop-symbol
decreases-loop-symbol l = effort (to_come l.machine)
