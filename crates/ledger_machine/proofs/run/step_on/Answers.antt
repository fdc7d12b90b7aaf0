use Rattle.std.proofs.Common.{◌∙◌, ap}
use Rattle.machine_state.specs.RunStates.{config_of}
use Rattle.ledger_runs.specs.Outcomes.{config_after}
use Rattle.ledger_machine.specs.Turns.{turn_of}
use Rattle.ledger_moves.specs.Frames.{move_seen}
use Rattle.ledger_machine.proofs.OneStep.{step_taken}
use Rattle.machine_state.proofs.FrameLaws.{on_error}
use Rattle.ledger_machine.proofs.run.step_on.Goals as goal

pub returns-clause-turn : goal.returns-clause-turn
returns-clause-turn c =
    let after = c.next_advance.new.m in
    c.in_ok-turn.ensures.turn ∙ ap turn_of (step_taken c.args.p.now (config_of c.args.m.now) (config_of after) (move_seen after.lists.cells.keys c.in_ok-advance.advance) c.next_advance.ensures.kept c.in_ok-advance.ensures.seen)

pub returns-clause-config : goal.returns-clause-config
returns-clause-config c =
    let after = c.next_advance.new.m in
    c.settle.ensures.kept ∙ c.in_ok-turn.ensures.config
    ∙ (λ i. config_after (c.next_advance.ensures.kept i) (step_taken c.args.p.now (config_of c.args.m.now) (config_of after) (move_seen after.lists.cells.keys c.in_ok-advance.advance) c.next_advance.ensures.kept c.in_ok-advance.ensures.seen i))

pub returns-in_err-turn-clause-kept : goal.returns-in_err-turn-clause-kept
returns-in_err-turn-clause-kept c = on_error c.from_residual-in_err-turn.result (c.in_err-turn.ensures.kept ∙ c.next_advance.ensures.kept)
