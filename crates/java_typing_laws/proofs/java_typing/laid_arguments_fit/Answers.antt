-- The law is a lemma over the definitions alone.
use Rattle.java_typing_laws.proofs.LaidCells.{arguments_fit}
use Rattle.java_typing_laws.proofs.java_typing.laid_arguments_fit.Goals as goal

pub returns : goal.returns
returns c = arguments_fit
