use Rattle.std.proofs.Common.{◌∙◌, ap}
use Rattle.std.specs.Option.{option_map}
use Rattle.java_control.specs.Changes.{step_in}
use Rattle.ledger_frames.specs.Choosing.{agrees}
use Rattle.ledger_frames.proofs.ChoiceLaws.{find_meant}
use Rattle.ledger_frames.proofs.choosing.chosen.Goals as goal

pub returns : goal.returns
returns c = λ cells. ap (option_map (step_in cells)) c.first_agreeing.ensures ∙ find_meant (agrees c.args.p.now c.args.heap.now c.args.arrays.now c.args.method c.args.locals.now) cells c.args.steps.now
