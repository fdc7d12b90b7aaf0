use Rattle.std.proofs.Common.{◌≡◌, ◌∙◌, ap, sym, Some}
use Rattle.ledger_obligations.specs.Obligations.{finished}
use Rattle.ledger_obligations.proofs.ChangeLaws.{change_as}
use Rattle.ledger_state.specs.declared.entry.Owner.TheVariants as owners
use Rattle.ledger_state.specs.Heaps.{change_one, object_at}
use Rattle.must_call_sets.specs.MustCallSets.{must_of}
use Rattle.draft_stores.proofs.operations.finish_exception.Goals as goal

pub returns-in-Some : goal.returns-in-Some
returns-in-Some c =
    let o : object_at c.args.heap.now c.args.number ≡ Some c.in-Some.x = sym c.object.ensures ∙ c.in-Some.is in
    let made : c.finished.result ≡ finished (must_of c.args.p.now c.args.class) owners.Library c.in-Some.x = c.finished.ensures ∙ ap (λ s. finished s owners.Library c.in-Some.x) c.must.ensures in
    c.put.ensures ∙ ap (λ y. change_one c.args.number (λ _. y) c.args.heap.now) made
    ∙ change_as (finished (must_of c.args.p.now c.args.class) owners.Library) c.args.number c.args.heap.now c.in-Some.x o
