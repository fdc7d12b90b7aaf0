use Rattle.place_laws.proofs.OperationTypeLaws.{plain_gives_none}
use Rattle.place_laws.proofs.operations.plain_gives_none.Goals as goal

pub returns : goal.returns
returns c = plain_gives_none
