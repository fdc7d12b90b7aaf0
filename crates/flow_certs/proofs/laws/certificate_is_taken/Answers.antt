-- The laws are lemmas over the definitions alone.
use Rattle.flow_certs.proofs.CertificateLaws.{not_limited, not_refused}
use Rattle.flow_certs.proofs.laws.certificate_is_taken.Goals as goal

pub returns-clause-refused : goal.returns-clause-refused
returns-clause-refused c = not_refused

pub returns-clause-limited : goal.returns-clause-limited
returns-clause-limited c = not_limited
