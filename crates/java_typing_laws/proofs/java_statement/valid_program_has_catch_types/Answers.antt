-- The law is a lemma over the definitions alone.
use Rattle.java_typing_laws.proofs.LeastClasses.{valid_has_catch_types}
use Rattle.java_typing_laws.proofs.java_statement.valid_program_has_catch_types.Goals as goal

pub returns : goal.returns
returns c = valid_has_catch_types
