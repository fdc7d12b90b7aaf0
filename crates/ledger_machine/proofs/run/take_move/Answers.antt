use Rattle.std.proofs.Common.{◌≡◌, ◌∙◌, ap}
use Rattle.machine_state.specs.RunStates.{config_of}
use Rattle.ledger_runs.specs.Outcomes.{config_after}
use Rattle.ledger_machine.specs.Turns.{turn_of}
use Rattle.ledger_runs.specs.Steps.{moved_by}
use Rattle.ledger_moves.specs.declared.advance.Advance.TheVariants as advances
use Rattle.ledger_moves.specs.Frames.{move_seen}
use Rattle.ledger_machine.proofs.MoveLaws.{rest_went, stray_went}
use Rattle.machine_state.proofs.FrameLaws.{more_seen}
use Rattle.ledger_machine.proofs.run.take_move.Goals as goal

pub returns-in_ok-run_inner-in-Inner-clause-turn : goal.returns-in_ok-run_inner-in-Inner-clause-turn
returns-in_ok-run_inner-in-Inner-clause-turn c =
    let m = c.args.m.now in
    let case = c.in-Inner.is in
    let is : advances.Inner c.in-Inner.thrown c.in-Inner.s ≡ c.args.advance = cc in
    ap turn_of (c.in_ok-run_inner-in-Inner.ensures.went ∙ ap (λ a. moved_by c.args.p.now (config_of m) (config_of m).frames (move_seen m.lists.cells.keys a)) is)

pub returns-in_ok-run_inner-in-Inner-clause-config : goal.returns-in_ok-run_inner-in-Inner-clause-config
returns-in_ok-run_inner-in-Inner-clause-config c =
    let m = c.args.m.now in
    let case = c.in-Inner.is in
    let is : advances.Inner c.in-Inner.thrown c.in-Inner.s ≡ c.args.advance = cc in
    ap (config_after (config_of m)) (c.in_ok-run_inner-in-Inner.ensures.went ∙ ap (λ a. moved_by c.args.p.now (config_of m) (config_of m).frames (move_seen m.lists.cells.keys a)) is)

pub returns-in_ok-run_start-in-Start-clause-turn : goal.returns-in_ok-run_start-in-Start-clause-turn
returns-in_ok-run_start-in-Start-clause-turn c =
    let m = c.args.m.now in
    let case = c.in-Start.is in
    let is : advances.Start c.in-Start.named c.in-Start.runs c.in-Start.action c.in-Start.pos ≡ c.args.advance = cc in
    ap turn_of (c.in_ok-run_start-in-Start.ensures.went ∙ ap (λ a. moved_by c.args.p.now (config_of m) (config_of m).frames (move_seen m.lists.cells.keys a)) is)

pub returns-in_ok-run_start-in-Start-clause-config : goal.returns-in_ok-run_start-in-Start-clause-config
returns-in_ok-run_start-in-Start-clause-config c =
    let m = c.args.m.now in
    let case = c.in-Start.is in
    let is : advances.Start c.in-Start.named c.in-Start.runs c.in-Start.action c.in-Start.pos ≡ c.args.advance = cc in
    ap (config_after (config_of m)) (c.in_ok-run_start-in-Start.ensures.went ∙ ap (λ a. moved_by c.args.p.now (config_of m) (config_of m).frames (move_seen m.lists.cells.keys a)) is)

pub returns-in_ok-run_library-in-Library-clause-turn : goal.returns-in_ok-run_library-in-Library-clause-turn
returns-in_ok-run_library-in-Library-clause-turn c =
    let m = c.args.m.now in
    let case = c.in-Library.is in
    let is : advances.Library c.in-Library.named c.in-Library.method c.in-Library.conduct c.in-Library.s ≡ c.args.advance = cc in
    ap turn_of (c.in_ok-run_library-in-Library.ensures.went ∙ ap (λ a. moved_by c.args.p.now (config_of m) (config_of m).frames (move_seen m.lists.cells.keys a)) is)

pub returns-in_ok-run_library-in-Library-clause-config : goal.returns-in_ok-run_library-in-Library-clause-config
returns-in_ok-run_library-in-Library-clause-config c =
    let m = c.args.m.now in
    let case = c.in-Library.is in
    let is : advances.Library c.in-Library.named c.in-Library.method c.in-Library.conduct c.in-Library.s ≡ c.args.advance = cc in
    ap (config_after (config_of m)) (c.in_ok-run_library-in-Library.ensures.went ∙ ap (λ a. moved_by c.args.p.now (config_of m) (config_of m).frames (move_seen m.lists.cells.keys a)) is)

pub returns-in-Stray-clause-turn : goal.returns-in-Stray-clause-turn
returns-in-Stray-clause-turn c =
    let m = c.args.m.now in
    let case = c.in-Stray.is in
    let is : advances.Stray c.in-Stray.class c.in-Stray.pos ≡ c.args.advance = cc in
    ap turn_of (stray_went c.args.p.now (config_of m) (config_of m).frames c.in-Stray.class c.in-Stray.pos (more_seen m.lists.cells.keys m.frames.items 0 m.frames.len c.requires.running m.frames.ok.0) ∙ ap (λ a. moved_by c.args.p.now (config_of m) (config_of m).frames (move_seen m.lists.cells.keys a)) is)

pub returns-in-Stray-clause-config : goal.returns-in-Stray-clause-config
returns-in-Stray-clause-config c =
    let m = c.args.m.now in
    let case = c.in-Stray.is in
    let is : advances.Stray c.in-Stray.class c.in-Stray.pos ≡ c.args.advance = cc in
    ap (config_after (config_of m)) (stray_went c.args.p.now (config_of m) (config_of m).frames c.in-Stray.class c.in-Stray.pos (more_seen m.lists.cells.keys m.frames.items 0 m.frames.len c.requires.running m.frames.ok.0) ∙ ap (λ a. moved_by c.args.p.now (config_of m) (config_of m).frames (move_seen m.lists.cells.keys a)) is)

pub returns-in-Rest-clause-turn : goal.returns-in-Rest-clause-turn
returns-in-Rest-clause-turn c =
    let m = c.args.m.now in
    let case = c.in-Rest.is in
    let is : advances.Rest ≡ c.args.advance = cc in
    ap turn_of (rest_went c.args.p.now (config_of m) (config_of m).frames (more_seen m.lists.cells.keys m.frames.items 0 m.frames.len c.requires.running m.frames.ok.0) ∙ ap (λ a. moved_by c.args.p.now (config_of m) (config_of m).frames (move_seen m.lists.cells.keys a)) is)

pub returns-in-Rest-clause-config : goal.returns-in-Rest-clause-config
returns-in-Rest-clause-config c =
    let m = c.args.m.now in
    let case = c.in-Rest.is in
    let is : advances.Rest ≡ c.args.advance = cc in
    ap (config_after (config_of m)) (rest_went c.args.p.now (config_of m) (config_of m).frames (more_seen m.lists.cells.keys m.frames.items 0 m.frames.len c.requires.running m.frames.ok.0) ∙ ap (λ a. moved_by c.args.p.now (config_of m) (config_of m).frames (move_seen m.lists.cells.keys a)) is)

pub returns-in_ok-turn-in-End-clause-turn : goal.returns-in_ok-turn-in-End-clause-turn
returns-in_ok-turn-in-End-clause-turn c =
    let m = c.args.m.now in
    let case = c.in-End.is in
    let is : advances.End c.in-End.pos c.in-End.completion ≡ c.args.advance = cc in
    c.in_ok-turn-in-End.ensures.turn ∙ ap (λ a. turn_of (moved_by c.args.p.now (config_of m) (config_of m).frames (move_seen m.lists.cells.keys a))) is

pub returns-in_ok-turn-in-End-clause-config : goal.returns-in_ok-turn-in-End-clause-config
returns-in_ok-turn-in-End-clause-config c =
    let m = c.args.m.now in
    let case = c.in-End.is in
    let is : advances.End c.in-End.pos c.in-End.completion ≡ c.args.advance = cc in
    c.in_ok-turn-in-End.ensures.config ∙ ap (λ a. config_after (config_of m) (moved_by c.args.p.now (config_of m) (config_of m).frames (move_seen m.lists.cells.keys a))) is
