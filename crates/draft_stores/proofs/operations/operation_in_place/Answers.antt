use Rattle.std.proofs.Common.{◌≡◌, ◌∙◌, subst, List, ◌∷◌, map, reverse, IfSome}
use Rattle.heap_drafts.proofs.DraftLaws.{drafted_on}
use Rattle.ledger_obligations.specs.Obligations.{held_in}
use Rattle.ledger_state.specs.declared.entry.Entry.{Entry}
use Rattle.ledger_state.specs.Locals.{held}
use Rattle.ledger_steps.specs.InnerSteps.{thrown_heap}
use Rattle.draft_stores.proofs.OperationLaws.{no_leaks, operation_lines}
use Rattle.draft_stores.proofs.StoreLaws.{store_rest}
use Rattle.draft_stores.proofs.operations.operation_in_place.Goals as goal

pub draft_end-requires-clause-rest : goal.draft_end-requires-clause-rest
draft_end-requires-clause-rest c =
    store_rest c.args.saved.now.items c.throw_in_place.new.saved.items c.args.heap.now c.throw_in_place.new.heap (held c.args.locals.now) (held c.args.now.now) (map held_in (reverse c.args.below.now)) c.deref.result.now c.requires c.throw_in_place.ensures.drafted (c.deref.ensures.value ∙ c.in_ok-roots.ensures)

pub draft_end-requires-clause-leaks : goal.draft_end-requires-clause-leaks
draft_end-requires-clause-leaks c = no_leaks c.throw_in_place.new.heap c.new-leaks.result.items c.new-leaks.ensures.items

pub returns-clause-lines : goal.returns-clause-lines
returns-clause-lines c =
    let p = c.args.p.now in
    let list = held c.args.now.now ∷ map held_in (reverse c.args.below.now) in
    let same = operation_lines p c.args.pos (thrown_heap p c.args.thrown c.args.heap.now) c.throw_in_place.new.heap list c.new-lines.result.items c.new-leaks.result.items c.in_ok-throw_in_place.ensures.heap c.new-lines.ensures.items c.new-leaks.ensures.items in
    subst (λ (es : List Entry). IfSome c.in_ok-all.all (λ v. v.items ≡ es)) same c.in_ok-all.ensures.lines

pub returns-in_err-all-clause-drafted : goal.returns-in_err-all-clause-drafted
returns-in_err-all-clause-drafted c =
    drafted_on c.args.saved.now.items c.args.heap.now c.throw_in_place.new.saved.items c.throw_in_place.new.heap c.draft_end.new.saved.items c.draft_end.new.heap c.throw_in_place.ensures.drafted c.draft_end.ensures.drafted

pub returns-clause-drafted : goal.returns-clause-drafted
returns-clause-drafted c =
    drafted_on c.args.saved.now.items c.args.heap.now c.throw_in_place.new.saved.items c.throw_in_place.new.heap c.draft_end.new.saved.items c.draft_end.new.heap c.throw_in_place.ensures.drafted c.draft_end.ensures.drafted
