use Rattle.place_laws.proofs.OperationTypeLaws.{arrays_keep_none}
use Rattle.place_laws.proofs.operations.arrays_keep_none.Goals as goal

pub returns : goal.returns
returns c = arrays_keep_none
