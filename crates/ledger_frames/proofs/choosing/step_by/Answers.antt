use Rattle.std.proofs.Common.{◌∙◌, ap}
use Rattle.std.specs.Option.{option_map}
use Rattle.java_control.specs.Changes.{step_in}
use Rattle.ledger_frames.specs.Choosing.{goes_by}
use Rattle.ledger_frames.proofs.ChoiceLaws.{find_meant}
use Rattle.ledger_frames.proofs.choosing.step_by.Goals as goal

pub returns : goal.returns
returns c = λ cells. ap (option_map (step_in cells)) c.first_by.ensures ∙ find_meant (goes_by c.args.edge) cells c.args.steps.now
