-- The law is a lemma over the definitions alone.
use Rattle.dispatch_laws.proofs.Overriding.{library_runs}
use Rattle.dispatch_laws.proofs.overriding_call.library_object_runs_library_method.Goals as goal

pub returns : goal.returns
returns c = library_runs
