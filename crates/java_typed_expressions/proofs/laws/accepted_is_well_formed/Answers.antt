-- The law is a lemma over the definitions alone.
use Rattle.java_typed_expressions.proofs.WellTyped.{well_typed}
use Rattle.java_typed_expressions.proofs.laws.accepted_is_well_formed.Goals as goal

pub returns : goal.returns
returns c = well_typed
