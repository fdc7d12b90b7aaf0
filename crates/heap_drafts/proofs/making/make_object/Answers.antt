use Rattle.std.proofs.Common.{◌≡◌, ◌∙◌, ap, sym, subst, [], ◌∷◌, ◌++◌}
use Rattle.ledger_state.specs.Contents.{HeapContents}
use Rattle.ledger_state.specs.Heaps.{next_number}
use Rattle.heap_drafts.specs.Drafts.{Drafted, saved_as}
use Rattle.heap_drafts.proofs.DraftLaws.{drafted_more, drafted_room}
use Rattle.heap_drafts.proofs.making.make_object.Goals as goal

pub returns-in_err-append-clause-drafted : goal.returns-in_err-append-clause-drafted
returns-in_err-append-clause-drafted c =
    let bs = c.args.saved.now.items in
    let saved : c.push.new.self.items ≡ bs ++ saved_as (next_number c.args.heap.now) c.unfinished-object.result ∷ [] = c.in_ok-push.ensures.items ∙ ap (λ n. bs ++ saved_as n c.unfinished-object.result ∷ []) c.next_number-number.ensures in
    subst (λ (i : HeapContents). Drafted bs c.args.heap.now c.push.new.self.items i) (sym c.in_err-append.ensures.err)
    (drafted_room bs c.push.new.self.items c.args.heap.now c.unfinished-object.result saved)

pub returns-clause-drafted : goal.returns-clause-drafted
returns-clause-drafted c =
    let bs = c.args.saved.now.items in
    let saved : c.push.new.self.items ≡ bs ++ saved_as (next_number c.args.heap.now) c.unfinished-object.result ∷ [] = c.in_ok-push.ensures.items ∙ ap (λ n. bs ++ saved_as n c.unfinished-object.result ∷ []) c.next_number-number.ensures in
    drafted_more bs c.push.new.self.items c.args.heap.now c.append.new.self c.args.class c.unfinished-object.result saved c.in_ok-append.ensures.ok
