use Rattle.heap_laws.proofs.StoredObjects.{stored_takes}
use Rattle.heap_laws.proofs.stores.owning_value_moves.Goals as goal

pub returns : goal.returns
returns c = stored_takes
