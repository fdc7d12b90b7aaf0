use Rattle.std.proofs.Common.{◌≡◌, ◌∙◌, ap, sym, [], ◌∷◌, ◌++◌, length}
use Rattle.machine_state.specs.RunStates.{config_of}
use Rattle.ledger_runs.specs.Steps.{top_move}
use Rattle.ledger_moves.specs.Choosing.{frame_steps}
use Rattle.ledger_moves.specs.Frames.{frame_seen}
use Rattle.ledger_moves.specs.Moves.{next_move, standing}
use Rattle.ledger_operations.specs.Operations.{next_choice}
use Rattle.java_control.specs.Remaining.{todos}
use Rattle.java_control.specs.Tables.{list_at}
use Rattle.std.specs.Prelude.{slice_get}
use Rattle.machine_state.proofs.FrameLaws.{last_bounded, last_seen, lists_kept}
use Rattle.ledger_machine.proofs.run.next_advance.Goals as goal

pub frame_move-requires : goal.frame_move-requires
frame_move-requires c =
    last_bounded (length c.args.m.now.lists.cells.keys) c.args.m.now.frames.items c.in-Some._below.now c.in-Some.top.now (sym c.deref.ensures.value ∙ c.in-Some.ensures.cases.0) c.requires.bounded

pub returns-in_ok-advance-in-Some-clause-seen : goal.returns-in_ok-advance-in-Some-clause-seen
returns-in_ok-advance-in-Some-clause-seen c =
    let m = c.args.m.now in
    let cells = c.args.m.now.lists.cells.keys in
    let top = c.in-Some.top.now in
    let split : m.frames.items ≡ c.in-Some._below.now ++ top ∷ [] = sym c.deref.ensures.value ∙ c.in-Some.ensures.cases.0 in
    let choice = c.next_choice-choice.ensures ∙ ap (λ xs. next_choice xs m.used) c.deref-in-Some.ensures.value in
    c.in_ok-advance-in-Some.ensures.seen
    ∙ (λ i. next_move c.args.p.now m.heap (c.deref-in-Some-2.ensures.value i) (choice i) top.method top.locals (frame_steps c.args.p.now (frame_seen cells top)) (standing (slice_get (todos (list_at cells top.control)) 0)))
    ∙ ap (top_move c.args.p.now (config_of m)) (sym (last_seen cells m.frames.items c.in-Some._below.now top split))

pub returns-in_ok-advance-in-Some-clause-kept : goal.returns-in_ok-advance-in-Some-clause-kept
returns-in_ok-advance-in-Some-clause-kept c = lists_kept c.args.m.now c.frame_move.new.lists c.frame_move.ensures.kept c.requires.bounded

pub returns-in_err-advance-in-Some-clause-kept : goal.returns-in_err-advance-in-Some-clause-kept
returns-in_err-advance-in-Some-clause-kept c = lists_kept c.args.m.now c.frame_move.new.lists c.frame_move.ensures.kept c.requires.bounded
