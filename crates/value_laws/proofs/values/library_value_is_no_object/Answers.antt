use Rattle.value_laws.proofs.ValueTypeGifts.{library_value_none}
use Rattle.value_laws.proofs.values.library_value_is_no_object.Goals as goal

pub returns : goal.returns
returns c = library_value_none
