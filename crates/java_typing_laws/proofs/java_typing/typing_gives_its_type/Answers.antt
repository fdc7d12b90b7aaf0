-- The law is a lemma over the definitions alone.
use Rattle.java_typing_laws.proofs.TypedExpressions.{gives_its_type}
use Rattle.java_typing_laws.proofs.java_typing.typing_gives_its_type.Goals as goal

pub returns : goal.returns
returns c = gives_its_type
