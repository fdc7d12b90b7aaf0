use Rattle.std.proofs.Common.{◌≡◌, ◌++◌, reverse, vec_len}
use Rattle.java_nodes.specs.Parts as parts
use Rattle.java_nodes.proofs.names.with_dots.Given as goal

abbrev pub invariant-loop-name : goal.invariant-loop-name
invariant-loop-name l = l.fn.text ++ parts.dots (reverse l.fn.names.items) ≡ l.whole ++ parts.dots (reverse l.names.items)

abbrev pub decreases-loop-name : goal.decreases-loop-name
decreases-loop-name l = vec_len l.names
