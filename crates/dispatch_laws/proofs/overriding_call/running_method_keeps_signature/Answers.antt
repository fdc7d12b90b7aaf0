-- The law is a lemma over the definitions alone.
use Rattle.dispatch_laws.proofs.Overriding.{kept_signature}
use Rattle.dispatch_laws.proofs.overriding_call.running_method_keeps_signature.Goals as goal

pub returns : goal.returns
returns c = kept_signature
