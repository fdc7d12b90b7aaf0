-- The law is a lemma over the definitions alone.
use Rattle.reading_laws.proofs.OneTree.{stub_stops}
use Rattle.reading_laws.proofs.tree.sections_have_no_stop.Goals as goal

pub returns : goal.returns
returns c = stub_stops
