-- The law is a lemma over the definitions alone.
use Rattle.dispatch_laws.proofs.Overriding.{named_or_overriding}
use Rattle.dispatch_laws.proofs.overriding_call.running_method_overrides.Goals as goal

pub returns : goal.returns
returns c = named_or_overriding
