-- The law is a lemma over the definitions alone.
use Rattle.elaboration_laws.proofs.WrittenTypeLaws.{declarable_types}
use Rattle.elaboration_laws.proofs.declarable_types.named_table_has_declarable_types.Goals as goal

pub returns : goal.returns
returns c p typed final classes are u = declarable_types p typed classes are final u
