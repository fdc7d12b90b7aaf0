use Rattle.place_laws.proofs.OperationTypeLaws.{operations_give_none}
use Rattle.place_laws.proofs.operations.operations_give_none.Goals as goal

pub returns : goal.returns
returns c = operations_give_none
