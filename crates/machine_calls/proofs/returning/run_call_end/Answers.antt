use Rattle.std.proofs.Common.{◌≡◌, ◌∙◌, sym, arith, [], ◌∷◌, ◌++◌, length}
use Rattle.ledger_moves.specs.Frames.{return_seen}
use Rattle.machine_calls.proofs.CallLaws.{return_seen_of}
use Rattle.machine_state.proofs.FrameLaws.{last_bounded, lists_kept, rest_bounded}
use Rattle.machine_calls.proofs.returning.run_call_end.Goals as goal

pub call_end-requires : goal.call_end-requires
call_end-requires c =
    let n = length c.args.m.now.lists.cells.keys in
    let split : c.args.m.now.frames.items ≡ c.in-Some.others.now ++ c.in-Some.top.now ∷ [] = sym c.deref.ensures.value ∙ c.in-Some.ensures.cases.0 in
    last_bounded n c.in-Some.others.now c.in-Some-split_last._below.now c.in-Some-split_last.caller.now c.in-Some-split_last.ensures.cases.0
    (rest_bounded n c.args.m.now.frames.items c.in-Some.others.now c.in-Some.top.now split c.requires.bounded)

pub returns-in_ok-end-in-Some-split_last-clause-seen : goal.returns-in_ok-end-in-Some-split_last-clause-seen
returns-in_ok-end-in-Some-split_last-clause-seen c =
    let m = c.args.m.now in
    let split : m.frames.items ≡ c.in-Some.others.now ++ c.in-Some.top.now ∷ [] = sym c.deref.ensures.value ∙ c.in-Some.ensures.cases.0 in
    λ fr caller frs h. return_seen_of c.args.p.now m.lists.cells.keys m.heap m.frames.items c.in-Some.others.now c.in-Some-split_last._below.now c.in-Some.top.now c.in-Some-split_last.caller.now c.args.completion (return_seen c.call_end.new.lists.cells.keys c.in_ok-end-in-Some-split_last.end) c.exception_class-thrown.result fr caller frs
    split c.in-Some-split_last.ensures.cases.0 c.in_ok-end-in-Some-split_last.ensures.seen c.exception_class-thrown.ensures h

pub returns-in-None-clause-seen : goal.returns-in-None-clause-seen
returns-in-None-clause-seen c =
    let none = c.in-None.ensures.cases in
    let count = c.deref.ensures.len in
    let running = c.requires.running in
    λ fr caller frs h. absurd (omega (arith, none, count, running))

pub returns-in-None-split_last-clause-seen : goal.returns-in-None-split_last-clause-seen
returns-in-None-split_last-clause-seen c =
    let none = c.in-None-split_last.ensures.cases in
    let more = c.in-Some.ensures.cases.1 in
    let count = c.deref.ensures.len in
    let running = c.requires.running in
    λ fr caller frs h. absurd (omega (arith, none, more, count, running))

pub returns-in_ok-end-in-Some-split_last-clause-kept : goal.returns-in_ok-end-in-Some-split_last-clause-kept
returns-in_ok-end-in-Some-split_last-clause-kept c = lists_kept c.args.m.now c.call_end.new.lists c.call_end.ensures.kept c.requires.bounded

pub returns-in_err-end-in-Some-split_last-clause-kept : goal.returns-in_err-end-in-Some-split_last-clause-kept
returns-in_err-end-in-Some-split_last-clause-kept c = lists_kept c.args.m.now c.call_end.new.lists c.call_end.ensures.kept c.requires.bounded
