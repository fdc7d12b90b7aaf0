use Rattle.body_origins.specs.Births.{Birth}
use Rattle.flow_certs.specs.Certificates.{Lists}
use Rattle.flow_certs.proofs.TestLaws.{HoldFirst}
use Rattle.flow_certs.proofs.births.lists_births.Given as goal

abbrev pub invariant-births : goal.invariant-births
invariant-births l = HoldFirst (λ (x : Birth). Lists l.origins.keys l.pairs.keys l.node x.0 x.1) l.births l.birth-index
