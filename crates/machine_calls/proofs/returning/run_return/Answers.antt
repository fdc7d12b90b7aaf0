use Rattle.std.proofs.Common.{◌≡◌, ◌∙◌, ◌&&◌, sym, ap, refl, subst, arith, ◌≤◌, [], ◌∷◌, ◌++◌, ◌+◌, length, map, reverse}
use Rattle.drafted_heaps.specs.DraftedHeaps.{heap_left}
use Rattle.frame_owners.specs.FrameOwners.{Listed, lists_in}
use Rattle.ledger_frames.specs.Frames.{locals_after}
use Rattle.ledger_obligations.specs.Obligations.{held_in}
use Rattle.ledger_moves.specs.Frames.{highest_control}
use Rattle.machine_state.proofs.TopLaws.{heap_kept, indexed_as, listed_as, nothing_after, nothing_again, nothing_apart_two, settled_as, settled_with}
use Rattle.machine_state.specs.RunStates.{config_of}
use Rattle.machine_calls.proofs.CallLaws.{return_went, top_dropped}
use Rattle.machine_state.proofs.FrameLaws.{frame_with, on_error, put_bounded, rest_bounded, top_put}
use Rattle.machine_calls.proofs.returning.run_return.Goals as goal

pub put_top-requires : goal.put_top-requires
put_top-requires c =
    let count = c.drop_top.ensures.count in
    let running = c.requires.running in
    omega (arith, count, running)

pub returns-in_ok-take_change-clause-went : goal.returns-in_ok-take_change-clause-went
returns-in_ok-take_change-clause-went c =
    let m = c.args.m.now in
    let t = c.args.t in
    let top = c.in-Some.top.now in
    let others = c.in-Some.others.now in
    let caller = c.in-Some-split_last.caller.now in
    let below = c.in-Some-split_last.below.now in
    let taken = c.in_ok-taken.taken in
    let locals = c.in_ok-locals.locals in
    let split : m.frames.items ≡ others ++ top ∷ [] = sym c.deref.ensures.value ∙ c.in-Some.ensures.cases.0 in
    let under : others ≡ below ++ caller ∷ [] = c.in-Some-split_last.ensures.cases.0 in
    let left : c.drop_top.new.frames.items ≡ others = c.drop_top.ensures.items ∙ top_dropped m.frames.items others top m.frames.len split (sym c.deref.ensures.len ∙ ap length c.deref.ensures.value) in
    let put = top_put c.put_top.new.frames.items c.drop_top.new.frames.items below caller (frame_with caller.method t.to locals) c.drop_top.new.frames.len (left ∙ under) c.drop_top.new.frames.ok.0 c.put_top.ensures in
    let entries = c.add_lines.ensures ∙ (λ i. c.reserve.ensures.items i ++ (c.deref-in-Some-split_last-2.ensures.value ∙ c.in_ok-taken.ensures.lines) i) in
    λ fr from frs h. return_went c.args.p.now m top caller below others fr from frs c.args.pos c.args.completion c.args.thrown c.args.named t c.result_value-value.result locals c.put_top.new.frames.items c.take_change.new.heap c.add_lines.new.entries.items
    split under h put c.result_value-value.ensures (c.in_ok-locals.ensures ∙ ap (λ v. locals_after c.args.p.now m.heap caller.method caller.locals t.action t.edge v) c.answered-answer.ensures) (c.in_ok-take_change.ensures.ok ∙ ap (heap_left taken.change) c.return_result.ensures.same ∙ c.in_ok-taken.ensures.heap) entries

pub returns-in_ok-take_change-clause-bounded : goal.returns-in_ok-take_change-clause-bounded
returns-in_ok-take_change-clause-bounded c =
    let m = c.args.m.now in
    let n = length c.args.m.now.lists.cells.keys in
    let top = c.in-Some.top.now in
    let others = c.in-Some.others.now in
    let caller = c.in-Some-split_last.caller.now in
    let below = c.in-Some-split_last.below.now in
    let new = frame_with caller.method c.args.t.to c.in_ok-locals.locals in
    let split : m.frames.items ≡ others ++ top ∷ [] = sym c.deref.ensures.value ∙ c.in-Some.ensures.cases.0 in
    let under : others ≡ below ++ caller ∷ [] = c.in-Some-split_last.ensures.cases.0 in
    let left : c.drop_top.new.frames.items ≡ others = c.drop_top.ensures.items ∙ top_dropped m.frames.items others top m.frames.len split (sym c.deref.ensures.len ∙ ap length c.deref.ensures.value) in
    let put = top_put c.put_top.new.frames.items c.drop_top.new.frames.items below caller new c.drop_top.new.frames.len (left ∙ under) c.drop_top.new.frames.ok.0 c.put_top.ensures in
    subst (λ xs. highest_control xs ≤ n) (sym put) (put_bounded n others below caller new under (rest_bounded n m.frames.items others top split c.requires.bounded) c.requires.within)

pub return_result-requires-clause-settled : goal.return_result-requires-clause-settled
return_result-requires-clause-settled c =
    let m = c.args.m.now in
    let split : m.frames.items ≡ c.in-Some.others.now ++ c.in-Some.top.now ∷ [] = sym c.deref.ensures.value ∙ c.in-Some.ensures.cases.0 in
    let under : c.in-Some.others.now ≡ c.in-Some-split_last.below.now ++ c.in-Some-split_last.caller.now ∷ [] = c.in-Some-split_last.ensures.cases.0 in
    λ so. (nothing_apart_two m c.in-Some.top.now c.in-Some-split_last.caller.now c.in-Some.others.now c.in-Some-split_last.below.now split under c.requires.settled so).0

pub returns-in_ok-take_change-clause-settled : goal.returns-in_ok-take_change-clause-settled
returns-in_ok-take_change-clause-settled c =
    let m = c.args.m.now in
    let top = c.in-Some.top.now in
    let others = c.in-Some.others.now in
    let caller = c.in-Some-split_last.caller.now in
    let below = c.in-Some-split_last.below.now in
    let taken = c.in_ok-taken.taken in
    let locals = c.in_ok-locals.locals in
    let new = frame_with caller.method c.args.t.to locals in
    let split : m.frames.items ≡ others ++ top ∷ [] = sym c.deref.ensures.value ∙ c.in-Some.ensures.cases.0 in
    let under : others ≡ below ++ caller ∷ [] = c.in-Some-split_last.ensures.cases.0 in
    let gone : c.drop_top.new.frames.items ≡ others = c.drop_top.ensures.items ∙ top_dropped m.frames.items others top m.frames.len split (sym c.deref.ensures.len ∙ ap length c.deref.ensures.value) in
    let put = top_put c.put_top.new.frames.items c.drop_top.new.frames.items below caller new c.drop_top.new.frames.len (gone ∙ under) c.drop_top.new.frames.ok.0 c.put_top.ensures in
    let left = heap_left taken.change m.heap in
    let again = heap_left taken.change c.return_result.new.heap in
    let same = c.in_ok-take_change.ensures.ok ∙ ap (heap_left taken.change) c.return_result.ensures.same in
    λ both. nothing_after taken.settled c.end_top_list-ended.result c.index_change-indexed.result c.take_change.new.heap (map held_in (reverse c.put_top.new.frames.items)) (lists_in c.end_top_list-ended.new.lists.items) c.index_change-indexed.new.index
    (λ so. settled_with c.take_change.new.heap left c.put_top.new.frames.items below new locals same put refl (c.in_ok-taken.ensures.settled so))
    (λ so. c.end_top_list-ended.ensures so)
    (λ so. indexed_as c.take_change.new.heap again c.index_change-indexed.new.index c.in_ok-take_change.ensures.ok (c.index_change-indexed.ensures.indexed so))
    (ap (λ known. taken.settled && known) (sym c.both-known.ensures) ∙ sym c.both-m.ensures ∙ both)

pub returns-in_err-take_change-clause-settled : goal.returns-in_err-take_change-clause-settled
returns-in_err-take_change-clause-settled c =
    let m = c.args.m.now in
    let back = c.return_result.ensures.same in
    let same = c.in_err-take_change.ensures.err in
    λ so.
    let known = c.requires.settled so in (
      (
        settled_as c.take_change.new.heap m.heap (map held_in (reverse m.frames.items)) (same ∙ back) known.0.0,
        listed_as c.take_change.new.heap c.return_result.new.heap (lists_in c.list_change-listed.new.lists.items) same (c.list_change-listed.ensures.kept (listed_as c.return_result.new.heap m.heap (lists_in m.owned.items) back known.0.1)),
      ),
      indexed_as c.take_change.new.heap c.return_result.new.heap c.index_change-indexed.new.index same (c.index_change-indexed.ensures.kept (indexed_as c.return_result.new.heap m.heap m.index back known.1)),
    )

pub returns-in_err-take_change-clause-kept : goal.returns-in_err-take_change-clause-kept
returns-in_err-take_change-clause-kept c =
    on_error c.from_residual-in_err-take_change.result
    (λ i. record (config_of c.args.m.now) { heap = (c.in_err-take_change.ensures.err ∙ c.return_result.ensures.same) i; entries = c.reserve.ensures.items i })

-- the heap, which the return looked at, is what it was
pub return_result-requires-clause-indexed : goal.return_result-requires-clause-indexed
return_result-requires-clause-indexed c = λ so. (c.requires.settled so).1

pub return_result-requires-clause-listed : goal.return_result-requires-clause-listed
return_result-requires-clause-listed c =
    λ so. subst (λ ls. Listed (lists_in ls) c.args.m.now.heap) (sym c.deref-in-Some-split_last.ensures.value) (c.requires.settled so).0.1

pub list_change-listed-requires : goal.list_change-listed-requires
list_change-listed-requires c =
    let m = c.args.m.now in
    λ so. listed_as c.return_result.new.heap m.heap (lists_in m.owned.items) c.return_result.ensures.same (c.requires.settled so).0.1

pub index_change-indexed-requires : goal.index_change-indexed-requires
index_change-indexed-requires c =
    let m = c.args.m.now in
    λ so. indexed_as c.return_result.new.heap m.heap m.index c.return_result.ensures.same (c.requires.settled so).1

pub end_top_list-ended-requires : goal.end_top_list-ended-requires
end_top_list-ended-requires c =
    let again = heap_left c.in_ok-taken.taken.change c.return_result.new.heap in
    λ so. listed_as c.take_change.new.heap again (lists_in c.list_change-listed.new.lists.items) c.in_ok-take_change.ensures.ok (c.list_change-listed.ensures.listed so)

pub returns-in_err-taken-clause-kept : goal.returns-in_err-taken-clause-kept
returns-in_err-taken-clause-kept c = on_error c.from_residual-in_err-taken.result (heap_kept c.args.m.now c.return_result.new.heap c.return_result.ensures.same)

pub returns-in_err-taken-clause-settled : goal.returns-in_err-taken-clause-settled
returns-in_err-taken-clause-settled c = nothing_again c.args.m.now c.return_result.new.heap c.args.m.now.frames.items c.return_result.ensures.same refl c.requires.settled

pub returns-in_err-reserve-clause-kept : goal.returns-in_err-reserve-clause-kept
returns-in_err-reserve-clause-kept c =
    on_error c.from_residual-in_err-reserve.result (λ i. record (config_of c.args.m.now) { heap = c.return_result.ensures.same i; entries = c.reserve.ensures.items i })

pub returns-in_err-reserve-clause-settled : goal.returns-in_err-reserve-clause-settled
returns-in_err-reserve-clause-settled c = nothing_again c.args.m.now c.return_result.new.heap c.args.m.now.frames.items c.return_result.ensures.same refl c.requires.settled
