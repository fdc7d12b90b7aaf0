use Rattle.java_cfg.specs.declared.arc.Arc.{Arc}
use Rattle.body_origins.specs.Flow.{flow}
use Rattle.flow_certs.specs.Certificates.{IsListed}
use Rattle.flow_certs.proofs.TestLaws.{HoldFirst}
use Rattle.flow_certs.proofs.steps.are_steps_listed.Given as goal

abbrev pub invariant-arcs : goal.invariant-arcs
invariant-arcs l = HoldFirst (λ (a : Arc). IsListed l.pairs.keys a.to l.number (flow l.p l.b l.origin a.action a.edge l.fact)) l.row l.arc-index
