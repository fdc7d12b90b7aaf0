use Rattle.place_laws.proofs.OperationTypeLaws.{statics_keep_none}
use Rattle.place_laws.proofs.operations.statics_keep_none.Goals as goal

pub returns : goal.returns
returns c = statics_keep_none
