use Rattle.std.proofs.Common.{ap}
use Rattle.machine_state.specs.RunStates.{config_of}
use Rattle.ledger_runs.specs.Outcomes.{config_after}
use Rattle.ledger_machine.specs.Turns.{turn_of}
use Rattle.ledger_machine.proofs.ending.end_main.Goals as goal

pub returns-clause-turn : goal.returns-clause-turn
returns-clause-turn c = ap turn_of c.in_ok-run_main_end.ensures.went

pub returns-clause-config : goal.returns-clause-config
returns-clause-config c = ap (config_after (config_of c.args.m.now)) c.in_ok-run_main_end.ensures.went
