use Rattle.std.proofs.Common.{List}
use Rattle.java_cfg.specs.Contents.{arcs_of}
use Rattle.java_cfg.specs.declared.arc.Arc.{Arc}
use Rattle.flow_certs.specs.Listings.{ListRowBirths}
use Rattle.flow_certs.proofs.TestLaws.{HoldFirst}
use Rattle.flow_certs.proofs.births.have_births.Given as goal

abbrev pub invariant-nodes : goal.invariant-nodes
invariant-nodes l = HoldFirst (λ (row : List Arc). ListRowBirths l.p l.b l.origins.keys l.pairs.keys row) (arcs_of l.graph) l.node
