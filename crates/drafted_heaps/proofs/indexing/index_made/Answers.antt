use Rattle.std.proofs.Common.{◌≡◌, true, Bool, None, Some, Option, Result, Ok, Err, sym, subst, ap, ◌∙◌}
use Rattle.std.specs.Prelude.{IfOk}
use Rattle.ledger_state.specs.declared.object.Object.{Object}
use Rattle.ledger_state.specs.Contents.{HeapContents}
use Rattle.ledger_state.specs.Heaps.{next_number}
use Rattle.object_index.specs.ObjectIndexes.{Indexed, is_indexed}
use Rattle.object_index.proofs.IndexLaws.{has_same}
use Rattle.spread_notes.specs.SpreadNotes.{add_made}
use Rattle.rlc_base.specs.declared.faults.NoMemory.{NoMemory}
use Rattle.drafted_heaps.proofs.IndexLaws.{index_made}
use Rattle.drafted_heaps.proofs.indexing.index_made.Goals as goal

pub returns-in-None-clause-all : goal.returns-in-None-clause-all
returns-in-None-clause-all c = has_same c.args.index.now

pub returns-in-None-clause-put : goal.returns-in-None-clause-put
returns-in-None-clause-put c =
    let case = c.in-None.is in
    let none : c.args.made.now ≡ None = cc in
    λ is g number indexed. subst (λ (o : Option Object). Indexed c.args.index.now (add_made o g)) (sym none) indexed

pub returns-in-Some-clause-put : goal.returns-in-Some-clause-put
returns-in-Some-clause-put c = go c.add_object.result c.add_object.ensures.there
  where
    x : Object
    x = c.in-Some.x

    go : (r : Result Bool NoMemory) → IfOk r (λ b. b ≡ true → is_indexed c.add_object.new.index c.args.number x ≡ true)
        → IfOk r (λ b. b ≡ true → (g : HeapContents) → c.args.number ≡ next_number g → Indexed c.args.index.now g → Indexed c.add_object.new.index (add_made c.args.made.now g))
    go (Err e) h = h
    go (Ok b) h = λ is g number indexed.
        let case = c.in-Some.is in
        let some : c.args.made.now ≡ Some x = cc in
        subst (λ (o : Option Object). Indexed c.add_object.new.index (add_made o g)) (sym some)
        (index_made c.args.index.now c.add_object.new.index x g c.add_object.ensures.all (ap (λ k. is_indexed c.add_object.new.index k x) (sym number) ∙ h is) indexed)
