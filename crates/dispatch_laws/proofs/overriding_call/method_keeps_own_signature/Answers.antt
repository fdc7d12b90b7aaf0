-- The law is a lemma over the definitions alone.
use Rattle.dispatch_laws.proofs.OverridingSignatures.{own_signature}
use Rattle.dispatch_laws.proofs.overriding_call.method_keeps_own_signature.Goals as goal

pub returns : goal.returns
returns c = own_signature
