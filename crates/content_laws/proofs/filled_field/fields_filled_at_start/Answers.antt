use Rattle.content_laws.proofs.Laws.{filled_at_start}
use Rattle.content_laws.proofs.filled_field.fields_filled_at_start.Goals as goal

pub returns : goal.returns
returns c = filled_at_start
