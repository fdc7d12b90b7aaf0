use Rattle.std.proofs.Common.{◌≡◌, ◌++◌}
use Rattle.java_cfg.specs.Contents.{arcs_of}
use Rattle.graph_words.specs.Arcs.{arc_lines}
use Rattle.graph_words.proofs.arcs.put_arcs.Given as goal

abbrev pub invariant-each : goal.invariant-each
invariant-each l = l.into ≡ l.initial.into ++ arc_lines l.p l.body (arcs_of l.graph) l.node
