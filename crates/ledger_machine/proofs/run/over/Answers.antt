use Rattle.std.proofs.Common.{◌∙◌, sym, ap}
use Rattle.machine_state.specs.RunStates.{config_of}
use Rattle.ledger_runs.specs.Outcomes.{config_after}
use Rattle.ledger_machine.specs.Turns.{turn_of}
use Rattle.ledger_machine.proofs.OneStep.{over_step}
use Rattle.machine_state.proofs.FrameLaws.{none_seen}
use Rattle.ledger_machine.proofs.run.over.Goals as goal

pub returns-clause-turn : goal.returns-clause-turn
returns-clause-turn c =
    let m = c.args.m.now in
    ap turn_of (over_step c.args.p.now (config_of m) (none_seen m.lists.cells.keys m.frames.items (sym m.frames.ok.0 ∙ c.requires)))

pub returns-clause-config : goal.returns-clause-config
returns-clause-config c =
    let m = c.args.m.now in
    ap (config_after (config_of m)) (over_step c.args.p.now (config_of m) (none_seen m.lists.cells.keys m.frames.items (sym m.frames.ok.0 ∙ c.requires)))
