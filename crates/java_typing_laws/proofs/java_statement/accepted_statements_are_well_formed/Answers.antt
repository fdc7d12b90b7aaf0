-- The law is a lemma over the definitions alone.
use Rattle.java_typing_laws.proofs.StatementLaws.{statements_well}
use Rattle.java_typing_laws.proofs.java_statement.accepted_statements_are_well_formed.Goals as goal

pub returns : goal.returns
returns c context typed catches ts none = statements_well context (typed, catches) ts none
