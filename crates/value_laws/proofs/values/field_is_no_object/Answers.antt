use Rattle.value_laws.proofs.ValueTypeFields.{field_is_none}
use Rattle.value_laws.proofs.values.field_is_no_object.Goals as goal

pub returns : goal.returns
returns c = field_is_none
