use Rattle.content_laws.proofs.Laws.{filled_step}
use Rattle.content_laws.proofs.filled_field.fields_filled_step.Goals as goal

pub returns : goal.returns
returns c = filled_step
