-- The law is a lemma over the definitions alone.
use Rattle.dispatch_laws.proofs.Owners.{runs_own}
use Rattle.dispatch_laws.proofs.own_method.owners_run_own_methods.Goals as goal

pub returns : goal.returns
returns c = runs_own
