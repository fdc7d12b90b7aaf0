-- The law is a lemma over the definitions alone.
use Rattle.java_typing_laws.proofs.LaidCells.{type_is_kept}
use Rattle.java_typing_laws.proofs.java_typing.laid_type_is_kept.Goals as goal

pub returns : goal.returns
returns c = type_is_kept
