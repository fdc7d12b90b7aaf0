use Rattle.std.proofs.Common.{◌≡◌, ◌∙◌, ◌&&◌, sym, ap, refl, subst, ◌≤◌, [], ◌∷◌, ◌++◌, length, map, reverse}
use Rattle.object_index.specs.FrameOwners.{lists_in}
use Rattle.machine_state.specs.Frames.{highest_control}
use Rattle.ledger_obligations.specs.Obligations.{held_in}
use Rattle.ledger_operations.specs.Operations.{arrays_after, made_value, next_choice, statics_after, used_after}
use Rattle.machine_state.specs.LedgerRunsSteps.{if_thrown}
use Rattle.machine_state.proofs.FrameLaws.{frame_with, on_error, put_bounded, top_put}
use Rattle.machine_state.proofs.TopLaws.{heap_kept, indexed_as, listed_as, nothing_after, nothing_again, settled_apart, settled_as, settled_with}
use Rattle.machine_state.specs.RunStates.{config_of}
use Rattle.machine_steps.proofs.InnerLaws.{inner_went}
use Rattle.drafted_heaps.specs.DraftedHeaps.{heap_left}
use Rattle.machine_steps.proofs.inner_run.run_inner.Goals as goal

pub inner_result-requires-clause-settled : goal.inner_result-requires-clause-settled
inner_result-requires-clause-settled c =
    let m = c.args.m.now in
    let split : m.frames.items ≡ c.in-Some.below.now ++ c.in-Some.top.now ∷ [] = sym c.deref.ensures.value ∙ c.in-Some.ensures.cases.0 in
    settled_apart m c.in-Some.top.now c.in-Some.below.now split c.requires.settled

pub returns-in_ok-take_change-clause-went : goal.returns-in_ok-take_change-clause-went
returns-in_ok-take_change-clause-went c =
    let m = c.args.m.now in
    let top = c.in-Some.top.now in
    let below = c.in-Some.below.now in
    let taken = c.in_ok-taken.taken in
    let locals = c.in_ok-locals.locals in
    let split : m.frames.items ≡ below ++ top ∷ [] = sym c.deref.ensures.value ∙ c.in-Some.ensures.cases.0 in
    let put = top_put c.put_top.new.frames.items m.frames.items below top (frame_with top.method c.args.s.to locals) m.frames.len split (sym c.deref.ensures.len ∙ ap length c.deref.ensures.value) c.put_top.ensures in
    let choice = c.next_choice-choice.ensures ∙ ap (λ xs. next_choice xs m.used) c.deref-in-Some.ensures.value in
    let made = c.made_value-made.ensures ∙ (λ i. made_value c.args.p.now m.heap (c.deref-in-Some-2.ensures.value i) (c.deref-in-Some-3.ensures.value i) (choice i) top.locals c.args.s.action) in
    let used = c.used_by-used.ensures ∙ (λ i. if_thrown c.args.thrown m.used (used_after (c.deref-in-Some-4.ensures.value i) (c.deref-in-Some-5.ensures.value i) m.used top.locals c.args.s.action)) in
    let arrays = c.store_results.ensures.arrays ∙ ap (λ xs. if_thrown c.args.thrown xs (arrays_after xs top.locals c.args.s.action)) c.room_for.ensures.arrays in
    let statics = c.store_results.ensures.statics ∙ ap (λ xs. if_thrown c.args.thrown xs (statics_after xs top.locals c.args.s.action)) c.room_for.ensures.statics in
    let entries = c.add_lines.ensures ∙ (λ i. c.room_for.ensures.entries i ++ (c.deref-in-Some-6.ensures.value ∙ c.in_ok-taken.ensures.lines) i) in
    inner_went c.args.p.now m top below c.args.thrown c.args.s c.made_value-made.result locals c.put_top.new.frames.items c.take_change.new.heap c.store_results.new.arrays.items c.store_results.new.statics.items c.used_by-used.result c.add_lines.new.entries.items
    split put made c.in_ok-locals.ensures (c.in_ok-take_change.ensures.ok ∙ ap (heap_left taken.change) c.inner_result.ensures.same ∙ c.in_ok-taken.ensures.heap) arrays statics used entries

pub returns-in_ok-take_change-clause-bounded : goal.returns-in_ok-take_change-clause-bounded
returns-in_ok-take_change-clause-bounded c =
    let m = c.args.m.now in
    let top = c.in-Some.top.now in
    let below = c.in-Some.below.now in
    let new = frame_with top.method c.args.s.to c.in_ok-locals.locals in
    let split : m.frames.items ≡ below ++ top ∷ [] = sym c.deref.ensures.value ∙ c.in-Some.ensures.cases.0 in
    let put = top_put c.put_top.new.frames.items m.frames.items below top new m.frames.len split (sym c.deref.ensures.len ∙ ap length c.deref.ensures.value) c.put_top.ensures in
    subst (λ xs. highest_control xs ≤ length m.lists.cells.keys) (sym put) (put_bounded (length m.lists.cells.keys) m.frames.items below top new split c.requires.bounded c.requires.within)

pub returns-in_ok-take_change-clause-settled : goal.returns-in_ok-take_change-clause-settled
returns-in_ok-take_change-clause-settled c =
    let m = c.args.m.now in
    let top = c.in-Some.top.now in
    let below = c.in-Some.below.now in
    let taken = c.in_ok-taken.taken in
    let locals = c.in_ok-locals.locals in
    let new = frame_with top.method c.args.s.to locals in
    let split : m.frames.items ≡ below ++ top ∷ [] = sym c.deref.ensures.value ∙ c.in-Some.ensures.cases.0 in
    let put = top_put c.put_top.new.frames.items m.frames.items below top new m.frames.len split (sym c.deref.ensures.len ∙ ap length c.deref.ensures.value) c.put_top.ensures in
    let left = heap_left taken.change m.heap in
    let again = heap_left taken.change c.inner_result.new.heap in
    let same = c.in_ok-take_change.ensures.ok ∙ ap (heap_left taken.change) c.inner_result.ensures.same in
    λ both. nothing_after taken.settled c.list_change-listed.result c.index_change-indexed.result c.take_change.new.heap (map held_in (reverse c.put_top.new.frames.items)) (lists_in c.list_change-listed.new.lists.items) c.index_change-indexed.new.index
    (λ so. settled_with c.take_change.new.heap left c.put_top.new.frames.items below new locals same put refl (c.in_ok-taken.ensures.settled so))
    (λ so. listed_as c.take_change.new.heap again (lists_in c.list_change-listed.new.lists.items) c.in_ok-take_change.ensures.ok (c.list_change-listed.ensures.listed so))
    (λ so. indexed_as c.take_change.new.heap again c.index_change-indexed.new.index c.in_ok-take_change.ensures.ok (c.index_change-indexed.ensures.indexed so))
    (ap (λ known. taken.settled && known) (sym c.both-known.ensures) ∙ sym c.both-m.ensures ∙ both)

pub returns-in_err-take_change-clause-settled : goal.returns-in_err-take_change-clause-settled
returns-in_err-take_change-clause-settled c =
    let m = c.args.m.now in
    let same = c.in_err-take_change.ensures.err ∙ c.inner_result.ensures.same in
    let back = c.inner_result.ensures.same in
    λ so.
    let known = c.requires.settled so in (
      (
        settled_as c.take_change.new.heap m.heap (map held_in (reverse m.frames.items)) same known.0.0,
        listed_as c.take_change.new.heap c.inner_result.new.heap (lists_in c.list_change-listed.new.lists.items) c.in_err-take_change.ensures.err (c.list_change-listed.ensures.kept (listed_as c.inner_result.new.heap m.heap (lists_in m.owned.items) back known.0.1)),
      ),
      indexed_as c.take_change.new.heap c.inner_result.new.heap c.index_change-indexed.new.index c.in_err-take_change.ensures.err (c.index_change-indexed.ensures.kept (indexed_as c.inner_result.new.heap m.heap m.index back known.1)),
    )

-- the heap, which the step looked at, is what it was
pub list_change-listed-requires : goal.list_change-listed-requires
list_change-listed-requires c =
    let m = c.args.m.now in
    λ so. listed_as c.inner_result.new.heap m.heap (lists_in m.owned.items) c.inner_result.ensures.same (c.requires.settled so).0.1

pub index_change-indexed-requires : goal.index_change-indexed-requires
index_change-indexed-requires c =
    let m = c.args.m.now in
    λ so. indexed_as c.inner_result.new.heap m.heap m.index c.inner_result.ensures.same (c.requires.settled so).1

pub inner_result-requires-clause-indexed : goal.inner_result-requires-clause-indexed
inner_result-requires-clause-indexed c = λ so. (c.requires.settled so).1

pub returns-in_err-taken-clause-kept : goal.returns-in_err-taken-clause-kept
returns-in_err-taken-clause-kept c = on_error c.from_residual-in_err-taken.result (heap_kept c.args.m.now c.inner_result.new.heap c.inner_result.ensures.same)

pub returns-in_err-taken-clause-settled : goal.returns-in_err-taken-clause-settled
returns-in_err-taken-clause-settled c = nothing_again c.args.m.now c.inner_result.new.heap c.args.m.now.frames.items c.inner_result.ensures.same refl c.requires.settled

pub returns-in_err-array-clause-kept : goal.returns-in_err-array-clause-kept
returns-in_err-array-clause-kept c =
    on_error c.from_residual-in_err-array.result
    (λ i. record (config_of c.args.m.now) { heap = c.inner_result.ensures.same i; arrays = c.room_for.ensures.arrays i; statics = c.room_for.ensures.statics i; entries = c.room_for.ensures.entries i })

pub returns-in_err-array-clause-settled : goal.returns-in_err-array-clause-settled
returns-in_err-array-clause-settled c = nothing_again c.args.m.now c.inner_result.new.heap c.args.m.now.frames.items c.inner_result.ensures.same refl c.requires.settled

pub returns-in_err-take_change-clause-kept : goal.returns-in_err-take_change-clause-kept
returns-in_err-take_change-clause-kept c =
    on_error c.from_residual-in_err-take_change.result
    (λ i. record (config_of c.args.m.now) { heap = (c.in_err-take_change.ensures.err ∙ c.inner_result.ensures.same) i; arrays = c.room_for.ensures.arrays i; statics = c.room_for.ensures.statics i; entries = c.room_for.ensures.entries i })
