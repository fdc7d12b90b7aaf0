-- The law is a lemma over the definitions alone.
use Rattle.java_typing_laws.proofs.TableLaws.{typed_members}
use Rattle.java_typing_laws.proofs.java_statement_typing.typed_program_has_typed_members.Goals as goal

pub returns : goal.returns
returns c = typed_members
