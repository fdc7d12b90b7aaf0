use Rattle.std.proofs.Common.{◌≤◌, subst, ℕ, List, length}
use Rattle.certificates.specs.Certified.{max_certificate}
use Rattle.flow_certs.specs.Certificates.{IsCertificate}
use Rattle.certificates.proofs.program.checked.Goals as goal

pub returns-in-Ok-clause-written : goal.returns-in-Ok-clause-written
returns-in-Ok-clause-written c = (
  subst (IsCertificate c.args.p.now) c.bytes-2.ensures c.in-Ok.ensures.certificate,
  subst (λ (text : List ℕ). length text ≤ max_certificate) c.bytes.ensures c.if-bytes-gt-MAX_CERTIFICATE.false,
)
