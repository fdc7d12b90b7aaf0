use Rattle.std.proofs.Common.{◌∙◌, ap, ◌∷◌, map, reverse}
use Rattle.ledger_obligations.specs.Obligations.{held_in}
use Rattle.ledger_state.specs.Locals.{held}
use Rattle.heap_drafts.specs.Drafts.{put_back}
use Rattle.heap_drafts.proofs.SettledLaws.{lose_among_changes, lose_drafts, lose_leaves, lose_some}
use Rattle.heap_drafts.proofs.losing.lose_among.Goals as goal

pub returns-in-Some-clause-heap : goal.returns-in-Some-clause-heap
returns-in-Some-clause-heap c =
    λ _. lose_some c.args.heap.now c.put_back.new.heap (held c.args.top.now ∷ map held_in (reverse c.args.below.now)) c.args.numbers.now c.in-Some.left.items (rw c.in-Some.is at c.in_ok-found.ensures) c.requires
    (c.put_back.ensures ∙ ap (λ bs. put_back bs c.args.heap.now) c.deref.ensures.value)

pub returns-in-Some-clause-settled : goal.returns-in-Some-clause-settled
returns-in-Some-clause-settled c =
    λ _. lose_leaves c.args.heap.now c.put_back.new.heap (held c.args.top.now ∷ map held_in (reverse c.args.below.now)) c.args.numbers.now c.in-Some.left.items (rw c.in-Some.is at c.in_ok-found.ensures) c.requires
    (c.put_back.ensures ∙ ap (λ bs. put_back bs c.args.heap.now) c.deref.ensures.value)

pub returns-in-Some-clause-among : goal.returns-in-Some-clause-among
returns-in-Some-clause-among c =
    λ _. lose_among_changes c.args.heap.now c.put_back.new.heap (held c.args.top.now ∷ map held_in (reverse c.args.below.now)) c.args.numbers.now c.in-Some.left.items (rw c.in-Some.is at c.in_ok-found.ensures) c.requires
    (c.put_back.ensures ∙ ap (λ bs. put_back bs c.args.heap.now) c.deref.ensures.value)

pub returns-in-Some-clause-drafted : goal.returns-in-Some-clause-drafted
returns-in-Some-clause-drafted c =
    lose_drafts c.args.saved.now.items c.save.new.saved.items c.args.heap.now c.put_back.new.heap (held c.args.top.now ∷ map held_in (reverse c.args.below.now)) c.args.numbers.now c.in-Some.left.items c.in_ok-save.ensures.ok (rw c.in-Some.is at c.in_ok-found.ensures) c.requires
    (c.put_back.ensures ∙ ap (λ bs. put_back bs c.args.heap.now) c.deref.ensures.value)
