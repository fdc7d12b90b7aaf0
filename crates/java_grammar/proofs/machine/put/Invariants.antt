use Rattle.std.proofs.Common.{◌≡◌, ◌++◌, map}
use Rattle.java_grammar.proofs.machine.put.Given as goal

abbrev pub invariant-loop-item : goal.invariant-loop-item
invariant-loop-item l = l.stack.items ≡ l.fn.stack.items ++ map (λ x. x.now) l.yielded
