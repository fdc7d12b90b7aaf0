use Rattle.content_laws.proofs.Runs.{fields_hold_step}
use Rattle.content_laws.proofs.content.fields_hold_step.Goals as goal

pub returns : goal.returns
returns c = fields_hold_step
