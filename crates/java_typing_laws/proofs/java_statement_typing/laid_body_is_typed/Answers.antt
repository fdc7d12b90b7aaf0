-- The law is a lemma over the definitions alone.
use Rattle.java_typing_laws.proofs.LaidStatements.{body_is_typed}
use Rattle.java_typing_laws.proofs.java_statement_typing.laid_body_is_typed.Goals as goal

pub returns : goal.returns
returns c = body_is_typed
