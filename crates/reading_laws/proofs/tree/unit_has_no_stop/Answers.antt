-- The law is a lemma over the definitions alone.
use Rattle.reading_laws.proofs.OneTree.{unit_stops}
use Rattle.reading_laws.proofs.tree.unit_has_no_stop.Goals as goal

pub returns : goal.returns
returns c = unit_stops
