use Rattle.std.proofs.Common.{◌≡◌, ◌∙◌, ◌++◌, ap, append_assoc}
use Rattle.program_model.specs.Lookups.{method_at}
use Rattle.ledger_calls.specs.Calls.{kept_promises, position_of, receiver_note}
use Rattle.ledger_calls.specs.Conducts.{made_by_new}
use Rattle.ledger_calls.proofs.results.add_library_notes.Goals as goal

pub returns : goal.returns
returns c =
    let p = c.args.p.now in
    let h = c.args.heap.now in
    let l = c.args.locals.now in
    let old = c.args.into.now.items in
    let note = receiver_note l c.args.action (method_at p c.args.named) in
    let made = c.made_by_new-made.result in
    let promises = c.promises_by-promises.result.now in
    c.in_ok-add_promises.ensures
    ∙ ap (λ xs. xs ++ kept_promises p h (position_of made l c.args.action) promises) c.in_ok-add_receiver_note.ensures
    ∙ append_assoc old note (kept_promises p h (position_of made l c.args.action) promises)
    ∙ ap (λ m. old ++ (note ++ kept_promises p h (position_of m l c.args.action) promises)) c.made_by_new-made.ensures
    ∙ ap (λ ps. old ++ (note ++ kept_promises p h (position_of (made_by_new c.args.action c.args.number c.args.conduct) l c.args.action) ps)) c.promises_by-promises.ensures
