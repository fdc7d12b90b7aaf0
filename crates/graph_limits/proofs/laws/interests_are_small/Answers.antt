-- The law is a lemma over the definitions alone.
use Rattle.graph_limits.proofs.SignedLaws.{signed_interests}
use Rattle.graph_limits.proofs.laws.interests_are_small.Goals as goal

pub returns : goal.returns
returns c = signed_interests
