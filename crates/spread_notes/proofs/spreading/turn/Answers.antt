use Rattle.std.proofs.Common.{◌∙◌, ◌-◌, ap, drop, length, take}
use Rattle.std.specs.List.{flat_map}
use Rattle.ledger_obligations.specs.Obligations.{follows, joined}
use Rattle.spread_notes.proofs.NewNotes.{turn_rest}
use Rattle.spread_notes.proofs.spreading.turn.Goals as goal

pub returns : goal.returns
returns c =
    let p = c.args.p.now in
    let h = c.args.heap.now in
    let notes = c.args.notes.now.items in
    c.in_ok-join.ensures
    ∙ ap (joined notes) c.deref.ensures.value
    ∙ turn_rest p h notes c.in_ok-further.further.items c.args.done c.requires.done
    (c.in_ok-further.ensures ∙ ap (λ ns. flat_map (follows p h) (take (length ns - c.args.done) (drop c.args.done ns))) c.as_slice.ensures.value)
