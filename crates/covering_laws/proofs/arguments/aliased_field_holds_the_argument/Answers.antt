use Rattle.covering_laws.proofs.KeptArguments.{field_holds}
use Rattle.covering_laws.proofs.arguments.aliased_field_holds_the_argument.Goals as goal

pub returns : goal.returns
returns c = field_holds
