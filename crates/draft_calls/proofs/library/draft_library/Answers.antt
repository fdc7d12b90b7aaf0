use Rattle.std.proofs.Common.{◌≡◌, ◌∙◌, ap, sym, subst, List, [], ◌∷◌, length, map, reverse, arith}
use Rattle.program_model.specs.Lookups.{method_at}
use Rattle.draft_steps.proofs.StepLaws.{draft_stores, draft_whole}
use Rattle.heap_drafts.specs.declared.saved.SavedObject.{SavedObject}
use Rattle.heap_drafts.specs.Drafts.{Drafted, put_back, shortened}
use Rattle.heap_drafts.proofs.DraftLaws.{taken_whole}
use Rattle.ledger_obligations.specs.Obligations.{held_in}
use Rattle.ledger_state.specs.Contents.{HeapContents}
use Rattle.ledger_state.specs.Locals.{held}
use Rattle.draft_steps.specs.CallSteps.{library_done}
use Rattle.draft_calls.proofs.library.draft_library.Goals as goal

pub returns-clause-kept : goal.returns-clause-kept
returns-clause-kept c =
    let h = c.args.heap.now in
    let g = c.call_in_place-lines.new.heap in
    let count : c.len-count.result ≡ length h.objects = (let n = ap (λ (i : HeapContents). length i.objects) c.heap.view_is in omega (arith, n)) in
    c.restore.ensures ∙ ap (λ (bs : List SavedObject). put_back bs (shortened c.len-count.result g)) c.deref-2.ensures.value
    ∙ taken_whole c.new-saved.result.items h c.call_in_place-lines.new.saved.items g c.len-count.result c.new-saved.ensures.items c.call_in_place-lines.ensures.drafted count

pub returns-clause-draft : goal.returns-clause-draft
returns-clause-draft c =
    let p = c.args.p.now in
    let h = c.args.heap.now in
    let g = c.call_in_place-lines.new.heap in
    let list = held c.args.top.now ∷ map held_in (reverse c.args.below.now) in
    let count : length h.objects ≡ c.len-count.result = (let n = ap (λ (i : HeapContents). length i.objects) c.heap.view_is in omega (arith, n)) in
    let begun : Drafted [] h c.call_in_place-lines.new.saved.items g = subst (λ (bs : List SavedObject). Drafted bs h c.call_in_place-lines.new.saved.items g) c.new-saved.ensures.items c.call_in_place-lines.ensures.drafted in
    let drafted : Drafted [] h c.deref.result.now g = subst (λ (bs : List SavedObject). Drafted [] h bs g) (sym c.deref.ensures.value) begun in
    draft_whole c.step_of-step.result c.call_in_place-lines.result h g c.len-count.result c.deref.result.now list
    (library_done p h c.args.locals.now c.args.call.action (method_at p c.args.call.named) (method_at p c.args.call.method) c.args.call.conduct c.args.call.position c.args.call.pos list)
    c.step_of-step.ensures c.call_in_place-lines.ensures.heap c.call_in_place-lines.ensures.lines c.call_in_place-lines.ensures.settled count drafted

pub returns-clause-stored : goal.returns-clause-stored
returns-clause-stored c = draft_stores c.step_of-step.result c.call_in_place-lines.result c.call_in_place-lines.new.heap c.len-count.result c.deref.result.now c.step_of-step.ensures
