-- The law is a lemma over the definitions alone.
use Rattle.java_typing_laws.proofs.TypedExpressions.{tree_is_typed}
use Rattle.java_typing_laws.proofs.java_typing.typing_is_typed.Goals as goal

pub returns : goal.returns
returns c = tree_is_typed
