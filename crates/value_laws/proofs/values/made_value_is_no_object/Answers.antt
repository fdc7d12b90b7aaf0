use Rattle.value_laws.proofs.ValueTypeLaws.{made_value_is_no_object}
use Rattle.value_laws.proofs.values.made_value_is_no_object.Goals as goal

pub returns : goal.returns
returns c = made_value_is_no_object
