-- A step that was taken leaves the rest of the run; where none was, the run came to its end there.
use Rattle.std.proofs.Common.{◌≡◌, ◌+◌, ◌-◌, ◌<◌, arith}
use Rattle.ledger_interp.proofs.RunLaws.{one_taken, run_over, run_stray}
use Rattle.ledger_interp.proofs.running.run_on.Goals as goal
use Rattle.ledger_runs.specs.Runs.{run_from}
use Rattle.ledger_machine.specs.Configurations.{configuration}
use Rattle.ledger_machine.specs.declared.turn.Turn.TheVariants as turns
use Rattle.ledger_machine.specs.Turns.{turn_of}
use Rattle.ledger_runs.specs.Steps.{step}

pub returns-in-Ended : goal.returns-in-Ended
returns-in-Ended c =
    let left : 0 < c.args.n - c.steps.taken = omega arith in
    let is : turns.Ended c.in-Ended.class ≡ turn_of (step c.args.p.now (configuration c.steps.now)) = cc (c.in-Ended.is, c.in_ok-step.ensures.turn) in
    run_over (c.args.n - c.steps.taken) c.args.p.now (configuration c.steps.now) (configuration c.step.new.self) c.in-Ended.class
    (run_from c.args.n c.args.p.now (configuration c.args.machine)) left is c.in_ok-step.ensures.config c.steps.invariant

pub returns-in-Stray : goal.returns-in-Stray
returns-in-Stray c =
    let left : 0 < c.args.n - c.steps.taken = omega arith in
    let is : turns.Stray c.in-Stray.class c.in-Stray.pos ≡ turn_of (step c.args.p.now (configuration c.steps.now)) = cc (c.in-Stray.is, c.in_ok-step.ensures.turn) in
    run_stray (c.args.n - c.steps.taken) c.args.p.now (configuration c.steps.now) (configuration c.step.new.self) c.in-Stray.class c.in-Stray.pos
    (run_from c.args.n c.args.p.now (configuration c.args.machine)) left is c.in_ok-step.ensures.config c.steps.invariant

pub steps-preserved : goal.steps-preserved
steps-preserved c =
    let more : c.args.n - c.steps.taken ≡ (c.args.n - (c.steps.taken + 1)) + 1 = omega arith in
    let is : turns.Went ≡ turn_of (step c.args.p.now (configuration c.steps.now)) = cc (c.in-Went.is, c.in_ok-step.ensures.turn) in
    one_taken (c.args.n - (c.steps.taken + 1)) (c.args.n - c.steps.taken) c.args.p.now (configuration c.steps.now) (configuration c.step.new.self)
    (run_from c.args.n c.args.p.now (configuration c.args.machine)) more is c.in_ok-step.ensures.config c.steps.invariant
