-- The law is a lemma over the definitions alone.
use Rattle.graph_limits.proofs.SignedLaws.{typed_lists}
use Rattle.graph_limits.proofs.laws.typed_lists_fields.Goals as goal

pub returns : goal.returns
returns c = typed_lists
