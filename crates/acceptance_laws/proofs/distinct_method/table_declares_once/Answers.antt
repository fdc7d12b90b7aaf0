-- The law is a lemma over the definitions alone.
use Rattle.acceptance_laws.proofs.Declared.{declares_once}
use Rattle.acceptance_laws.proofs.distinct_method.table_declares_once.Goals as goal

pub returns : goal.returns
returns c = declares_once
