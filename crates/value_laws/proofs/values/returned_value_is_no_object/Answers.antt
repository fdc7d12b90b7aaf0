use Rattle.value_laws.proofs.ValueTypeLaws.{returned_value_is_no_object}
use Rattle.value_laws.proofs.values.returned_value_is_no_object.Goals as goal

pub returns : goal.returns
returns c = returned_value_is_no_object
