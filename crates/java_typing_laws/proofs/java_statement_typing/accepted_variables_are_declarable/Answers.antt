-- The law is a lemma over the definitions alone.
use Rattle.java_typing_laws.proofs.VariableLaws.{statements_declare}
use Rattle.java_typing_laws.proofs.java_statement_typing.accepted_variables_are_declarable.Goals as goal

pub returns-clause-count : goal.returns-clause-count
returns-clause-count c context types ts none = (statements_declare context types ts none).count

pub returns-clause-declarable : goal.returns-clause-declarable
returns-clause-declarable c context types ts none = (statements_declare context types ts none).declarable
