use Rattle.content_laws.proofs.Runs.{fields_hold_at_start}
use Rattle.content_laws.proofs.content.fields_hold_at_start.Goals as goal

pub returns : goal.returns
returns c = fields_hold_at_start
