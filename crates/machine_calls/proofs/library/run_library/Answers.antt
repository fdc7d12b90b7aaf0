use Rattle.std.proofs.Common.{◌≡◌, ◌∙◌, ◌&&◌, sym, ap, refl, subst, ◌≤◌, [], ◌∷◌, ◌++◌, length, map, reverse}
use Rattle.program_model.specs.Lookups.{method_at}
use Rattle.ledger_calls.specs.Conducts.{arguments_shared, arrays_given, conduct_value, positions, result_in}
use Rattle.drafted_heaps.specs.DraftedHeaps.{heap_left}
use Rattle.frame_owners.specs.FrameOwners.{lists_in}
use Rattle.ledger_obligations.specs.Obligations.{held_in}
use Rattle.ledger_moves.specs.Frames.{highest_control}
use Rattle.ledger_operations.specs.Operations.{one_more_used}
use Rattle.machine_state.proofs.TopLaws.{indexed_as, listed_as, nothing_after, nothing_again, settled_apart, settled_as, settled_with}
use Rattle.machine_calls.proofs.CallLaws.{library_call_went}
use Rattle.machine_state.specs.RunStates.{config_of}
use Rattle.machine_state.proofs.FrameLaws.{frame_with, on_error, put_bounded, top_put}
use Rattle.machine_calls.proofs.library.run_library.Goals as goal

pub returns-in_ok-take_change-clause-went : goal.returns-in_ok-take_change-clause-went
returns-in_ok-take_change-clause-went c =
    let p = c.args.p.now in
    let m = c.args.m.now in
    let s = c.args.s in
    let top = c.in-Some.top.now in
    let below = c.in-Some.below.now in
    let taken = c.in_ok-taken.taken in
    let locals = c.in_ok-locals.locals in
    let split : m.frames.items ≡ below ++ top ∷ [] = sym c.deref.ensures.value ∙ c.in-Some.ensures.cases.0 in
    let put = top_put c.put_top.new.frames.items m.frames.items below top (frame_with top.method s.to locals) m.frames.len split (sym c.deref.ensures.len ∙ ap length c.deref.ensures.value) c.put_top.ensures in
    let count = c.len-count.ensures ∙ c.reserve.ensures.len ∙ m.arrays.ok.0 in
    let value = c.conduct_value-value.ensures ∙ ap (λ k. conduct_value c.len-count.result (method_at p c.args.method) (positions top.locals s.action k c.args.conduct) k c.args.conduct) c.next_number-number.ensures in
    let arrays = c.give_arrays.ensures ∙ ap (λ xs. arrays_given (arguments_shared xs top.locals s.action (method_at p c.args.named)) (result_in (method_at p c.args.method)) c.args.conduct) c.reserve.ensures.items in
    let used = c.one_more_used-m.ensures ∙ ap (λ xs. one_more_used xs m.used) c.deref-in-Some-2.ensures.value in
    let entries = c.add_lines.ensures ∙ (λ i. c.reserve-in-Some.ensures.items i ++ (c.deref-in-Some.ensures.value ∙ c.in_ok-taken.ensures.lines) i) in
    library_call_went p m top below c.args.named c.args.method c.args.conduct s c.len-count.result c.conduct_value-value.result locals c.put_top.new.frames.items c.take_change.new.heap c.give_arrays.new.arrays.items c.one_more_used-m.result c.add_lines.new.entries.items
    split put count value c.in_ok-locals.ensures (c.in_ok-take_change.ensures.ok ∙ ap (heap_left taken.change) c.library_result.ensures.same ∙ c.in_ok-taken.ensures.heap) arrays used entries

pub returns-in_ok-take_change-clause-bounded : goal.returns-in_ok-take_change-clause-bounded
returns-in_ok-take_change-clause-bounded c =
    let m = c.args.m.now in
    let top = c.in-Some.top.now in
    let below = c.in-Some.below.now in
    let new = frame_with top.method c.args.s.to c.in_ok-locals.locals in
    let split : m.frames.items ≡ below ++ top ∷ [] = sym c.deref.ensures.value ∙ c.in-Some.ensures.cases.0 in
    let put = top_put c.put_top.new.frames.items m.frames.items below top new m.frames.len split (sym c.deref.ensures.len ∙ ap length c.deref.ensures.value) c.put_top.ensures in
    subst (λ xs. highest_control xs ≤ length m.lists.cells.keys) (sym put) (put_bounded (length m.lists.cells.keys) m.frames.items below top new split c.requires.bounded c.requires.within)

pub library_result-requires-clause-settled : goal.library_result-requires-clause-settled
library_result-requires-clause-settled c =
    let m = c.args.m.now in
    let split : m.frames.items ≡ c.in-Some.below.now ++ c.in-Some.top.now ∷ [] = sym c.deref.ensures.value ∙ c.in-Some.ensures.cases.0 in
    settled_apart m c.in-Some.top.now c.in-Some.below.now split c.requires.settled

pub returns-in_ok-take_change-clause-settled : goal.returns-in_ok-take_change-clause-settled
returns-in_ok-take_change-clause-settled c =
    let m = c.args.m.now in
    let top = c.in-Some.top.now in
    let below = c.in-Some.below.now in
    let taken = c.in_ok-taken.taken in
    let locals = c.in_ok-locals.locals in
    let new = frame_with top.method c.args.s.to locals in
    let split : m.frames.items ≡ below ++ top ∷ [] = sym c.deref.ensures.value ∙ c.in-Some.ensures.cases.0 in
    let put = top_put c.put_top.new.frames.items m.frames.items below top new m.frames.len split (sym c.deref.ensures.len ∙ ap length c.deref.ensures.value) c.put_top.ensures in
    let left = heap_left taken.change m.heap in
    let again = heap_left taken.change c.library_result.new.heap in
    let same = c.in_ok-take_change.ensures.ok ∙ ap (heap_left taken.change) c.library_result.ensures.same in
    λ both. nothing_after taken.settled c.list_change-listed.result c.index_change-indexed.result c.take_change.new.heap (map held_in (reverse c.put_top.new.frames.items)) (lists_in c.list_change-listed.new.lists.items) c.index_change-indexed.new.index
    (λ so. settled_with c.take_change.new.heap left c.put_top.new.frames.items below new locals same put refl (c.in_ok-taken.ensures.settled so))
    (λ so. listed_as c.take_change.new.heap again (lists_in c.list_change-listed.new.lists.items) c.in_ok-take_change.ensures.ok (c.list_change-listed.ensures.listed so))
    (λ so. indexed_as c.take_change.new.heap again c.index_change-indexed.new.index c.in_ok-take_change.ensures.ok (c.index_change-indexed.ensures.indexed so))
    (ap (λ known. taken.settled && known) (sym c.both-known.ensures) ∙ sym c.both-m.ensures ∙ both)

-- the heap, which the call looked at, is what it was
pub library_result-requires-clause-indexed : goal.library_result-requires-clause-indexed
library_result-requires-clause-indexed c = λ so. (c.requires.settled so).1

pub list_change-listed-requires : goal.list_change-listed-requires
list_change-listed-requires c =
    let m = c.args.m.now in
    λ so. listed_as c.library_result.new.heap m.heap (lists_in m.owned.items) c.library_result.ensures.same (c.requires.settled so).0.1

pub index_change-indexed-requires : goal.index_change-indexed-requires
index_change-indexed-requires c =
    let m = c.args.m.now in
    λ so. indexed_as c.library_result.new.heap m.heap m.index c.library_result.ensures.same (c.requires.settled so).1

pub returns-in_err-taken-clause-kept : goal.returns-in_err-taken-clause-kept
returns-in_err-taken-clause-kept c = on_error c.from_residual-in_err-taken.result (λ i. record (config_of c.args.m.now) { heap = c.library_result.ensures.same i; arrays = c.reserve.ensures.items i })

pub returns-in_err-taken-clause-settled : goal.returns-in_err-taken-clause-settled
returns-in_err-taken-clause-settled c = λ so. nothing_again c.args.m.now c.library_result.new.heap c.args.m.now.frames.items c.library_result.ensures.same refl c.requires.settled so

pub returns-in_err-take_change-clause-settled : goal.returns-in_err-take_change-clause-settled
returns-in_err-take_change-clause-settled c =
    let m = c.args.m.now in
    let back = c.library_result.ensures.same in
    let same = c.in_err-take_change.ensures.err in
    λ so.
    let known = c.requires.settled so in (
      (settled_as c.take_change.new.heap m.heap (map held_in (reverse m.frames.items)) (same ∙ back) known.0.0, listed_as c.take_change.new.heap c.library_result.new.heap (lists_in c.list_change-listed.new.lists.items) same (c.list_change-listed.ensures.kept (listed_as c.library_result.new.heap m.heap (lists_in m.owned.items) back known.0.1))),
      indexed_as c.take_change.new.heap c.library_result.new.heap c.index_change-indexed.new.index same (c.index_change-indexed.ensures.kept (indexed_as c.library_result.new.heap m.heap m.index back known.1)),
    )
