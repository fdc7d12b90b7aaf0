-- The law is a lemma over the definitions alone.
use Rattle.java_typing_laws.proofs.TypedExpressions.{passed_to_method}
use Rattle.java_typing_laws.proofs.java_typing.arguments_are_passed.Goals as goal

pub returns : goal.returns
returns c = passed_to_method
