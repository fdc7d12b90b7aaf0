-- The law is a lemma over the definitions alone.
use Rattle.dispatch_laws.proofs.Calls.{plain_call}
use Rattle.dispatch_laws.proofs.dispatch.call_is_plain.Goals as goal

pub returns : goal.returns
returns c = plain_call
