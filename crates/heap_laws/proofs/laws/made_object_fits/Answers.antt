use Rattle.heap_laws.proofs.Conducts.{made_object_fits}
use Rattle.heap_laws.proofs.laws.made_object_fits.Goals as goal

pub returns : goal.returns
returns c = made_object_fits
