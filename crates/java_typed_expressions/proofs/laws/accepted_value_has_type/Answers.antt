-- The law is a lemma over the definitions alone.
use Rattle.java_typed_expressions.proofs.WellTyped.{has_type}
use Rattle.java_typed_expressions.proofs.laws.accepted_value_has_type.Goals as goal

pub returns : goal.returns
returns c s typed wanted e none =
    let v = has_type s typed wanted e none in
    (v.vtype, v.has)
