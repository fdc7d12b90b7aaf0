use Rattle.std.proofs.Common.{◌≡◌, ◌∙◌, ap}
use Rattle.java_control.specs.Changes.{step_in}
use Rattle.machine_state.specs.RunStates.{config_of}
use Rattle.ledger_runs.specs.Outcomes.{config_after}
use Rattle.ledger_machine.specs.Turns.{turn_of}
use Rattle.ledger_moves.specs.declared.advance.CallEnd.TheVariants as call_ends
use Rattle.ledger_moves.specs.Frames.{return_seen}
use Rattle.machine_state.proofs.FrameLaws.{more_seen}
use Rattle.ledger_machine.proofs.MoveLaws.{back_went, end_no_way, end_stray}
use Rattle.ledger_machine.proofs.ending.end_call.Goals as goal

pub returns-in-NoWay-clause-turn : goal.returns-in-NoWay-clause-turn
returns-in-NoWay-clause-turn c =
    let m = c.args.m.now in
    let after = c.run_call_end.new.m in
    let case = c.in-NoWay.is in
    let is : call_ends.NoWay ≡ c.in_ok-end.end = cc in
    let seen = ap (return_seen after.lists.cells.keys) is in
    ap turn_of (end_no_way c.args.p.now (config_of m) (config_of m).frames c.args.pos c.args.completion (more_seen m.lists.cells.keys m.frames.items 1 m.frames.len c.requires.running m.frames.ok.0) (λ fr caller frs h. seen ∙ c.in_ok-end.ensures.seen fr caller frs h))

pub returns-in-NoWay-clause-config : goal.returns-in-NoWay-clause-config
returns-in-NoWay-clause-config c =
    let m = c.args.m.now in
    let after = c.run_call_end.new.m in
    let case = c.in-NoWay.is in
    let is : call_ends.NoWay ≡ c.in_ok-end.end = cc in
    let seen = ap (return_seen after.lists.cells.keys) is in
    c.run_call_end.ensures.kept ∙ ap (config_after (config_of m)) (end_no_way c.args.p.now (config_of m) (config_of m).frames c.args.pos c.args.completion (more_seen m.lists.cells.keys m.frames.items 1 m.frames.len c.requires.running m.frames.ok.0) (λ fr caller frs h. seen ∙ c.in_ok-end.ensures.seen fr caller frs h))

pub returns-in-Stray-clause-turn : goal.returns-in-Stray-clause-turn
returns-in-Stray-clause-turn c =
    let m = c.args.m.now in
    let after = c.run_call_end.new.m in
    let case = c.in-Stray.is in
    let is : call_ends.Stray c.in-Stray.class c.in-Stray.at ≡ c.in_ok-end.end = cc in
    let seen = ap (return_seen after.lists.cells.keys) is in
    ap turn_of (end_stray c.args.p.now (config_of m) (config_of m).frames c.args.pos c.args.completion c.in-Stray.class c.in-Stray.at (more_seen m.lists.cells.keys m.frames.items 1 m.frames.len c.requires.running m.frames.ok.0) (λ fr caller frs h. seen ∙ c.in_ok-end.ensures.seen fr caller frs h))

pub returns-in-Stray-clause-config : goal.returns-in-Stray-clause-config
returns-in-Stray-clause-config c =
    let m = c.args.m.now in
    let after = c.run_call_end.new.m in
    let case = c.in-Stray.is in
    let is : call_ends.Stray c.in-Stray.class c.in-Stray.at ≡ c.in_ok-end.end = cc in
    let seen = ap (return_seen after.lists.cells.keys) is in
    c.run_call_end.ensures.kept ∙ ap (config_after (config_of m)) (end_stray c.args.p.now (config_of m) (config_of m).frames c.args.pos c.args.completion c.in-Stray.class c.in-Stray.at (more_seen m.lists.cells.keys m.frames.items 1 m.frames.len c.requires.running m.frames.ok.0) (λ fr caller frs h. seen ∙ c.in_ok-end.ensures.seen fr caller frs h))

pub returns-in_ok-run_return-in-Back-clause-turn : goal.returns-in_ok-run_return-in-Back-clause-turn
returns-in_ok-run_return-in-Back-clause-turn c =
    let m = c.args.m.now in
    let after = c.run_call_end.new.m in
    let case = c.in-Back.is in
    let is : call_ends.Back c.in-Back.thrown c.in-Back.named c.in-Back.t ≡ c.in_ok-end.end = cc in
    let seen = ap (return_seen after.lists.cells.keys) is in
    ap turn_of (back_went c.args.p.now (config_of m) (config_of after) (config_of c.run_return.new.m) c.args.pos c.args.completion c.in-Back.thrown c.in-Back.named (step_in after.lists.cells.keys c.in-Back.t) c.run_call_end.ensures.kept (more_seen m.lists.cells.keys m.frames.items 1 m.frames.len c.requires.running m.frames.ok.0) (λ fr caller frs h. seen ∙ c.in_ok-end.ensures.seen fr caller frs h) c.in_ok-run_return-in-Back.ensures.went)

pub returns-in_ok-run_return-in-Back-clause-config : goal.returns-in_ok-run_return-in-Back-clause-config
returns-in_ok-run_return-in-Back-clause-config c =
    let m = c.args.m.now in
    let after = c.run_call_end.new.m in
    let case = c.in-Back.is in
    let is : call_ends.Back c.in-Back.thrown c.in-Back.named c.in-Back.t ≡ c.in_ok-end.end = cc in
    let seen = ap (return_seen after.lists.cells.keys) is in
    ap (config_after (config_of m)) (back_went c.args.p.now (config_of m) (config_of after) (config_of c.run_return.new.m) c.args.pos c.args.completion c.in-Back.thrown c.in-Back.named (step_in after.lists.cells.keys c.in-Back.t) c.run_call_end.ensures.kept (more_seen m.lists.cells.keys m.frames.items 1 m.frames.len c.requires.running m.frames.ok.0) (λ fr caller frs h. seen ∙ c.in_ok-end.ensures.seen fr caller frs h) c.in_ok-run_return-in-Back.ensures.went)
