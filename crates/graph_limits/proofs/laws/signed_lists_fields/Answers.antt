-- The law is a lemma over the definitions alone.
use Rattle.graph_limits.proofs.SignedLaws.{signed_lists}
use Rattle.graph_limits.proofs.laws.signed_lists_fields.Goals as goal

pub returns : goal.returns
returns c = signed_lists
