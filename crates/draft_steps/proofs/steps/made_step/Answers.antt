use Rattle.std.proofs.Common.{◌≡◌, ◌∙◌, ap, sym, refl, length, List, ◌+◌, ◌≤◌, arith}
use Rattle.ledger_state.specs.Contents.{HeapContents}
use Rattle.ledger_state.specs.Heaps.{object_at}
use Rattle.spread_notes.specs.declared.numbered.Numbered.{Numbered}
use Rattle.spread_notes.specs.SpreadNotes.{add_made, put_each}
use Rattle.draft_steps.specs.Steps.{numbered_in}
use Rattle.draft_steps.proofs.StepLaws.{step_made}
use Rattle.draft_steps.proofs.steps.made_step.Goals as goal

pub returns : goal.returns
returns c = record {
  heap = λ h same drafted.
      let g = c.args.heap.now in
      let few : length g.objects ≤ length h.objects + 1 = (let count = ap (λ (i : HeapContents). length i.objects) c.heap.view_is in let next = c.requires in omega (arith, count, same, next)) in
      let made : c.object.result ≡ object_at g (length h.objects + 1) = c.object.ensures ∙ ap (object_at g) (c.requires ∙ ap (λ n. n + 1) (sym same)) in
      let is : c.in_ok-changes.changes.items ≡ numbered_in g c.in_ok-numbers.numbers.items = c.in_ok-changes.ensures ∙ ap (numbered_in g) c.deref.ensures.value in
      ap (λ (bs : List Numbered). put_each bs (add_made c.object.result h)) is
      ∙ step_made c.args.saved.now h g c.in_ok-numbers.numbers.items c.object.result drafted c.in_ok-numbers.ensures.saved few made;
  stored = refl;
  lines = refl;
}
