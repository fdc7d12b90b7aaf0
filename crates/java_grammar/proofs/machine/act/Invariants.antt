use Rattle.std.proofs.Common.{List, ◌≡◌, ◌++◌, map, vec_len}
use Rattle.java_syntax.specs.declared.symbols.Item.TheVariants.{Do}
use Rattle.java_syntax.specs.declared.tokens.Event.TheVariants as event
use Rattle.java_syntax.specs.declared.actions.Action.{Action}
use Rattle.java_grammar.specs.Reached.{to_come}
use Rattle.java_grammar.proofs.machine.act.Given as goal

abbrev pub invariant-loop-action : goal.invariant-loop-action
invariant-loop-action l = (all : List Action) × (to_come l.fn.machine ≡ map (λ a. Do a) all ++ to_come l.machine) × (l.machine.events.items ≡ l.fn.machine.events.items ++ map (λ a. event.Did a) all) × (l.machine.context ≡ l.fn.machine.context)

abbrev pub decreases-loop-action : goal.decreases-loop-action
decreases-loop-action l = vec_len l.machine.stack
