use Rattle.std.proofs.Common.{◌≡◌, ◌∙◌, ◌&&◌, ap, sym, refl, subst, [], ◌∷◌, ◌++◌, List, ℕ, true, length, map, reverse}
use Rattle.drafted_heaps.specs.DraftedHeaps.{heap_left}
use Rattle.frame_owners.specs.FrameOwners.{Listed, lists_in}
use Rattle.frame_owners.proofs.OwnerLaws.{listed_begun}
use Rattle.draft_steps.specs.Settled.{Settled}
use Rattle.ledger_obligations.specs.declared.active_frame.ActiveFrame.{ActiveFrame}
use Rattle.ledger_obligations.specs.Obligations.{held_in}
use Rattle.ledger_state.specs.Locals.{held}
use Rattle.machine_state.proofs.TopLaws.{indexed_as, listed_as, nothing_after, nothing_again, settled_as, settled_of, settled_with}
use Rattle.machine_calls.proofs.CallLaws.{added_bounded, all_kept, all_kept_heap, more_bounded, start_went}
use Rattle.machine_state.proofs.FrameLaws.{frames_kept, on_error}
use Rattle.machine_calls.proofs.starting.run_start.Goals as goal

pub start_result-requires : goal.start_result-requires
start_result-requires c = record {
  settled = settled_of c.args.m.now c.deref-in-Some.result.now (c.deref-in-Some.ensures.value ∙ c.reserve.ensures.items) c.requires.settled;
}

pub returns-in_ok-take_change-clause-went : goal.returns-in_ok-take_change-clause-went
returns-in_ok-take_change-clause-went c =
    let m = c.args.m.now in
    let top = c.in-Some.top.now in
    let below = c.in-Some._below.now in
    let started = c.in_ok-started.started in
    let frame = c.in_ok-frame.frame in
    let new = c.start_frame.new.lists.cells.keys in
    let split : m.frames.items ≡ below ++ top ∷ [] = sym c.reserve.ensures.items ∙ sym c.deref.ensures.value ∙ c.in-Some.ensures.cases.0 in
    let frames = c.add_frame.ensures ∙ ap (λ xs. xs ++ frame ∷ []) c.reserve.ensures.items in
    let kept = frames_kept m.lists.cells.keys new m.frames.items c.start_frame.ensures.kept c.requires.bounded in
    let entries = c.add_lines.ensures ∙ (λ i. c.reserve-in-Some.ensures.items i ++ (c.deref-in-Some-2.ensures.value ∙ c.in_ok-started.ensures.lines) i) in
    start_went c.args.p.now m new top below c.args.named c.args.runs c.args.action c.args.pos frame c.deref-in-Some.result.now c.add_frame.new.frames.items c.take_change.new.heap c.add_lines.new.entries.items
    split (c.deref-in-Some.ensures.value ∙ c.reserve.ensures.items) kept frames c.in_ok-frame.ensures.frame (c.in_ok-take_change.ensures.ok ∙ ap (heap_left started.change) c.start_result.ensures.same ∙ c.in_ok-started.ensures.heap) entries

pub returns-in_ok-take_change-clause-bounded : goal.returns-in_ok-take_change-clause-bounded
returns-in_ok-take_change-clause-bounded c =
    let m = c.args.m.now in
    let new = c.start_frame.new.lists.cells.keys in
    let frame = c.in_ok-frame.frame in
    added_bounded (length m.lists.cells.keys) (length new) c.add_frame.new.frames.items m.frames.items frame (c.add_frame.ensures ∙ ap (λ xs. xs ++ frame ∷ []) c.reserve.ensures.items) c.requires.bounded c.start_frame.ensures.kept.grows c.in_ok-frame.ensures.within

pub list_change-listed-requires : goal.list_change-listed-requires
list_change-listed-requires c =
    let m = c.args.m.now in
    λ so. listed_as c.start_result.new.heap m.heap (lists_in c.add_list.new.lists.items) c.start_result.ensures.same
    (subst (λ (ls : List (List ℕ)). Listed ls m.heap) (sym c.in_ok-add_list.ensures.lists) (listed_begun (lists_in m.owned.items) m.heap (c.requires.settled so).0.1))

pub index_change-indexed-requires : goal.index_change-indexed-requires
index_change-indexed-requires c =
    let m = c.args.m.now in
    λ so. indexed_as c.start_result.new.heap m.heap m.index c.start_result.ensures.same (c.requires.settled so).1

pub returns-in_ok-take_change-clause-settled : goal.returns-in_ok-take_change-clause-settled
returns-in_ok-take_change-clause-settled c =
    let m = c.args.m.now in
    let started = c.in_ok-started.started in
    let frame = c.in_ok-frame.frame in
    let frames = c.add_frame.ensures ∙ ap (λ xs. xs ++ frame ∷ []) c.reserve.ensures.items in
    let all = c.deref-in-Some.ensures.value ∙ c.reserve.ensures.items in
    let left = heap_left started.change m.heap in
    let again = heap_left started.change c.start_result.new.heap in
    let same = c.in_ok-take_change.ensures.ok ∙ ap (heap_left started.change) c.start_result.ensures.same in
    λ both. nothing_after started.settled c.list_change-listed.result c.index_change-indexed.result c.take_change.new.heap (map held_in (reverse c.add_frame.new.frames.items)) (lists_in c.list_change-listed.new.lists.items) c.index_change-indexed.new.index
    (λ so. settled_with c.take_change.new.heap left c.add_frame.new.frames.items m.frames.items frame frame.locals same frames refl
    (subst (λ (frs : List ActiveFrame). Settled left (held frame.locals ∷ map held_in (reverse frs))) all (c.in_ok-started.ensures.settled so)))
    (λ so. listed_as c.take_change.new.heap again (lists_in c.list_change-listed.new.lists.items) c.in_ok-take_change.ensures.ok (c.list_change-listed.ensures.listed so))
    (λ so. indexed_as c.take_change.new.heap again c.index_change-indexed.new.index c.in_ok-take_change.ensures.ok (c.index_change-indexed.ensures.indexed so))
    (ap (λ known. started.settled && known) (sym c.both-known.ensures) ∙ sym c.both-m.ensures ∙ both)

pub returns-in_err-add_list-clause-kept : goal.returns-in_err-add_list-clause-kept
returns-in_err-add_list-clause-kept c =
    on_error c.from_residual-in_err-add_list.result (all_kept_heap c.args.m.now c.start_frame.new.lists.cells.keys c.reserve.new.self.items c.start_result.new.heap c.reserve-in-Some.new.self.items c.start_frame.ensures.kept c.requires.bounded c.reserve.ensures.items c.start_result.ensures.same c.reserve-in-Some.ensures.items)

pub returns-in_err-add_list-clause-bounded : goal.returns-in_err-add_list-clause-bounded
returns-in_err-add_list-clause-bounded c =
    let m = c.args.m.now in
    more_bounded (length m.lists.cells.keys) (length c.start_frame.new.lists.cells.keys) c.reserve.new.self.items m.frames.items c.reserve.ensures.items c.requires.bounded c.start_frame.ensures.kept.grows

pub returns-in_err-started-clause-kept : goal.returns-in_err-started-clause-kept
returns-in_err-started-clause-kept c =
    on_error c.from_residual-in_err-started.result (all_kept_heap c.args.m.now c.start_frame.new.lists.cells.keys c.reserve.new.self.items c.start_result.new.heap c.args.m.now.entries.items c.start_frame.ensures.kept c.requires.bounded c.reserve.ensures.items c.start_result.ensures.same refl)

pub returns-in_err-started-clause-bounded : goal.returns-in_err-started-clause-bounded
returns-in_err-started-clause-bounded c =
    let m = c.args.m.now in
    more_bounded (length m.lists.cells.keys) (length c.start_frame.new.lists.cells.keys) c.reserve.new.self.items m.frames.items c.reserve.ensures.items c.requires.bounded c.start_frame.ensures.kept.grows

pub returns-in_err-reserve-2-clause-kept : goal.returns-in_err-reserve-2-clause-kept
returns-in_err-reserve-2-clause-kept c =
    on_error c.from_residual-in_err-reserve-2.result (all_kept_heap c.args.m.now c.start_frame.new.lists.cells.keys c.reserve.new.self.items c.start_result.new.heap c.reserve-in-Some.new.self.items c.start_frame.ensures.kept c.requires.bounded c.reserve.ensures.items c.start_result.ensures.same c.reserve-in-Some.ensures.items)

pub returns-in_err-reserve-2-clause-bounded : goal.returns-in_err-reserve-2-clause-bounded
returns-in_err-reserve-2-clause-bounded c =
    let m = c.args.m.now in
    more_bounded (length m.lists.cells.keys) (length c.start_frame.new.lists.cells.keys) c.reserve.new.self.items m.frames.items c.reserve.ensures.items c.requires.bounded c.start_frame.ensures.kept.grows

pub returns-in_err-take_change-clause-kept : goal.returns-in_err-take_change-clause-kept
returns-in_err-take_change-clause-kept c =
    on_error c.from_residual-in_err-take_change.result (all_kept_heap c.args.m.now c.start_frame.new.lists.cells.keys c.reserve.new.self.items c.take_change.new.heap c.reserve-in-Some.new.self.items c.start_frame.ensures.kept c.requires.bounded c.reserve.ensures.items (c.in_err-take_change.ensures.err ∙ c.start_result.ensures.same) c.reserve-in-Some.ensures.items)

pub returns-in_err-take_change-clause-bounded : goal.returns-in_err-take_change-clause-bounded
returns-in_err-take_change-clause-bounded c =
    let m = c.args.m.now in
    more_bounded (length m.lists.cells.keys) (length c.start_frame.new.lists.cells.keys) c.reserve.new.self.items m.frames.items c.reserve.ensures.items c.requires.bounded c.start_frame.ensures.kept.grows

pub returns-in_err-take_change-clause-settled : goal.returns-in_err-take_change-clause-settled
returns-in_err-take_change-clause-settled c =
    let m = c.args.m.now in
    let same = c.in_err-take_change.ensures.err in
    let all = nothing_again m c.start_result.new.heap c.reserve.new.self.items c.start_result.ensures.same c.reserve.ensures.items c.requires.settled in
    let grown : m.settled ≡ true → Listed (lists_in c.add_list.new.lists.items) c.start_result.new.heap = λ so. subst (λ (ls : List (List ℕ)). Listed ls c.start_result.new.heap) (sym c.in_ok-add_list.ensures.lists) (listed_begun (lists_in m.owned.items) c.start_result.new.heap (all so).0.1) in
    λ so. (
      (settled_as c.take_change.new.heap c.start_result.new.heap (map held_in (reverse c.reserve.new.self.items)) same (all so).0.0, listed_as c.take_change.new.heap c.start_result.new.heap (lists_in c.list_change-listed.new.lists.items) same (c.list_change-listed.ensures.kept (grown so))),
      indexed_as c.take_change.new.heap c.start_result.new.heap c.index_change-indexed.new.index same (c.index_change-indexed.ensures.kept (all so).1),
    )

pub returns-in_err-started-clause-settled : goal.returns-in_err-started-clause-settled
returns-in_err-started-clause-settled c = nothing_again c.args.m.now c.start_result.new.heap c.reserve.new.self.items c.start_result.ensures.same c.reserve.ensures.items c.requires.settled

pub returns-in_err-reserve-2-clause-settled : goal.returns-in_err-reserve-2-clause-settled
returns-in_err-reserve-2-clause-settled c = nothing_again c.args.m.now c.start_result.new.heap c.reserve.new.self.items c.start_result.ensures.same c.reserve.ensures.items c.requires.settled

pub returns-in_err-add_list-clause-settled : goal.returns-in_err-add_list-clause-settled
returns-in_err-add_list-clause-settled c =
    let all = nothing_again c.args.m.now c.start_result.new.heap c.reserve.new.self.items c.start_result.ensures.same c.reserve.ensures.items c.requires.settled in
    let lists = sym (ap (λ xs. lists_in xs) c.in_err-add_list.ensures.kept) in
    λ so. (((all so).0.0, subst (λ (ls : List (List ℕ)). Listed ls c.start_result.new.heap) lists (all so).0.1), (all so).1)

pub returns-in_err-frame-clause-kept : goal.returns-in_err-frame-clause-kept
returns-in_err-frame-clause-kept c =
    on_error c.from_residual-in_err-frame.result (all_kept c.args.m.now c.start_frame.new.lists.cells.keys c.reserve.new.self.items c.args.m.now.entries.items c.start_frame.ensures.kept c.requires.bounded c.reserve.ensures.items refl)

pub returns-in_err-frame-clause-bounded : goal.returns-in_err-frame-clause-bounded
returns-in_err-frame-clause-bounded c =
    let m = c.args.m.now in
    more_bounded (length m.lists.cells.keys) (length c.start_frame.new.lists.cells.keys) c.reserve.new.self.items m.frames.items c.reserve.ensures.items c.requires.bounded c.start_frame.ensures.kept.grows

pub returns-in_err-frame-clause-settled : goal.returns-in_err-frame-clause-settled
returns-in_err-frame-clause-settled c = nothing_again c.args.m.now c.args.m.now.heap c.reserve.new.self.items refl c.reserve.ensures.items c.requires.settled
