-- The law is a lemma over the definitions alone.
use Rattle.dispatch_laws.proofs.Calls.{named_or_overriding_runs}
use Rattle.dispatch_laws.proofs.dispatch.named_or_overriding_method_runs.Goals as goal

pub returns : goal.returns
returns c = named_or_overriding_runs
