use Rattle.covering_laws.proofs.KeptArguments.{argument_alone}
use Rattle.covering_laws.proofs.arguments.argument_alone_is_stored.Goals as goal

pub returns : goal.returns
returns c = argument_alone
