use Rattle.value_laws.proofs.ValueTypeLaws.{argument_is_no_object}
use Rattle.value_laws.proofs.values.argument_is_no_object.Goals as goal

pub returns : goal.returns
returns c = argument_is_no_object
