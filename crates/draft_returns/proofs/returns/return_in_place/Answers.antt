use Rattle.std.proofs.Common.{◌≡◌, ◌∙◌, ap, sym, subst, ◌+◌, List, [], ◌∷◌, ◌++◌, length, map, reverse, IfSome, arith}
use Rattle.std.proofs.lemmas.List.{length-map, length-reverse}
use Rattle.program_model.specs.Lookups.{method_at}
use Rattle.draft_lines.specs.DraftLines.{leak_entries_of}
use Rattle.heap_drafts.specs.declared.saved.SavedObject.{SavedObject}
use Rattle.heap_drafts.specs.Drafts.{Drafted}
use Rattle.ledger_steps.specs.Entries.{owner_entries}
use Rattle.ledger_obligations.specs.Obligations.{held_in}
use Rattle.ledger_state.specs.declared.entry.Entry.{Entry}
use Rattle.ledger_state.specs.Heaps.{has_number}
use Rattle.ledger_state.specs.Locals.{held}
use Rattle.ledger_steps.specs.Ends.{call_end_entries, result_moved}
use Rattle.draft_returns.proofs.RestLaws.{return_lines, return_rest}
use Rattle.draft_returns.proofs.returns.return_in_place.Goals as goal

pub draft_end-requires-clause-rest : goal.draft_end-requires-clause-rest
draft_end-requires-clause-rest c k x there unsaved none =
    let rest = map held_in (reverse c.args.below.now) in
    let mapped = length-map (reverse c.args.below.now) held_in in
    let turned = length-reverse c.args.below.now in
    let place = c.requires.place in
    let at : c.args.position + 1 ≡ length rest + 1 + 1 = omega (arith, mapped, turned, place) in
    let first : Drafted [] c.args.heap.now c.draft_frame_gone.new.saved.items c.draft_frame_gone.new.heap = subst (λ (bs : List SavedObject). Drafted bs c.args.heap.now c.draft_frame_gone.new.saved.items c.draft_frame_gone.new.heap) c.requires.saved c.draft_frame_gone.ensures.drafted in
    return_rest c.args.heap.now c.draft_frame_gone.new.heap c.draft_call_end.new.heap (held c.args.ended.now) (held c.args.locals.now) (held c.args.now.now) rest c.draft_frame_gone.new.saved.items c.draft_call_end.new.saved.items (c.args.position + 1) at c.requires.settled first c.in_ok-draft_frame_gone.ensures.owned c.draft_call_end.ensures.drafted k x there unsaved
    (ap (λ js. has_number js k) (sym (c.deref-2.ensures.value ∙ c.in_ok-roots.ensures)) ∙ none)

pub returns-clause-lines : goal.returns-clause-lines
returns-clause-lines c =
    let p = c.args.p.now in
    let runs = method_at p c.args.end.method in
    let named = method_at p c.args.named in
    let list = held c.args.now.now ∷ map held_in (reverse c.args.below.now) in
    let h = c.args.heap.now in
    let f = c.draft_frame_gone.new.heap in
    let g = c.draft_call_end.new.heap in
    let calls = call_end_entries p c.args.at c.args.position c.args.end.this c.args.locals.now c.args.action named c.args.end.thrown f in
    let moved = owner_entries p c.args.at h (result_moved p c.args.position runs c.args.end.value c.args.end.thrown h) in
    let called : c.draft_call_end.new.lines.items ≡ calls = c.in_ok-draft_call_end.ensures.lines c.if-not-branch.false ∙ ap (λ (es : List Entry). es ++ calls) c.new-lines.ensures.items in
    let owned : c.draft_frame_gone.new.lines.items ≡ moved = c.in_ok-draft_frame_gone.ensures.lines ∙ ap (λ (es : List Entry). es ++ moved) c.new-owners.ensures.items in
    let joined : c.extend_from_slice.new.self.items ≡ c.draft_call_end.new.lines.items ++ c.draft_frame_gone.new.lines.items = c.in_ok-extend_from_slice.ensures.items ∙ ap (λ (es : List Entry). c.draft_call_end.new.lines.items ++ es) c.deref.ensures.value in
    let same = return_lines p c.args.at c.args.end.pos c.args.position c.args.end.this c.args.locals.now c.args.action runs named c.args.end.value c.args.end.thrown h f g list c.extend_from_slice.new.self.items c.draft_call_end.new.lines.items c.draft_frame_gone.new.lines.items (leak_entries_of c.draft_frame_gone.new.leaks.items)
    c.in_ok-draft_frame_gone.ensures.heap (c.in_ok-draft_call_end.ensures.heap c.if-not-branch.false) called owned joined c.in_ok-draft_frame_gone.ensures.leaks in
    subst (λ (es : List Entry). IfSome c.in_ok-all.all (λ v. v.items ≡ es)) same c.in_ok-all.ensures.lines
