use Rattle.std.proofs.Common.{◌≡◌, length}
use Rattle.java_cfg.specs.Contents.{arcs_of}
use Rattle.fault_paths.specs.Tests.{goes_on}
use Rattle.fault_paths.proofs.path.goes_on.Given as goal

abbrev pub invariant-each : goal.invariant-each
invariant-each l = goes_on l.p l.b (arcs_of l.graph) l.fault l.step l.rest ≡ goes_on l.p l.b (arcs_of l.graph) l.fault l.fn.first l.fn.others

abbrev pub decreases-each : goal.decreases-each
decreases-each l = length l.rest
