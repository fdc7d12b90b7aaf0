use Rattle.std.proofs.Common.{◌≡◌}
use Rattle.java_cfg.specs.Contents.{arcs_of}
use Rattle.graph_words.specs.Arcs.{arc_count}
use Rattle.graph_words.proofs.arcs.arc_count.Given as goal

abbrev pub invariant-each : goal.invariant-each
invariant-each l = l.count ≡ arc_count (arcs_of l.graph) l.node
