-- The law is a lemma over the definitions alone.
use Rattle.java_typing_laws.proofs.StatementTyping.{statements_typed}
use Rattle.java_typing_laws.proofs.java_statement_typing.accepted_statements_are_typed.Goals as goal

pub returns : goal.returns
returns c context variables owner m here result ts at none = statements_typed variables owner m context here result ts at none
