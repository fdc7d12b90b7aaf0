-- The law is a lemma over the definitions alone.
use Rattle.java_typing_laws.proofs.LaidCells.{laid_is_typed}
use Rattle.java_typing_laws.proofs.java_typing.laid_expressions_are_typed.Goals as goal

pub returns : goal.returns
returns c = laid_is_typed
