use Rattle.heap_laws.proofs.StoredObjects.{displaced_leaks}
use Rattle.heap_laws.proofs.stores.displaced_met_leaks_nothing.Goals as goal

pub returns : goal.returns
returns c = λ p word pos h w f v. displaced_leaks p h w f v word pos
