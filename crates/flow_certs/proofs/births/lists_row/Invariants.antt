use Rattle.java_cfg.specs.declared.arc.Arc.{Arc}
use Rattle.body_origins.specs.Origins.{arc_births}
use Rattle.flow_certs.specs.Listings.{ListBirths}
use Rattle.flow_certs.proofs.TestLaws.{HoldFirst}
use Rattle.flow_certs.proofs.births.lists_row.Given as goal

abbrev pub invariant-arcs : goal.invariant-arcs
invariant-arcs l = HoldFirst (λ (a : Arc). ListBirths l.origins.keys l.pairs.keys a.to (arc_births l.p l.b a)) l.row l.arc-index
