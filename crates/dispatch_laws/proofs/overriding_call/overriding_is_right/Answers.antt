-- The law is a lemma over the definitions alone.
use Rattle.dispatch_laws.proofs.Overriding.{right_overriding}
use Rattle.dispatch_laws.proofs.overriding_call.overriding_is_right.Goals as goal

pub returns : goal.returns
returns c = right_overriding
