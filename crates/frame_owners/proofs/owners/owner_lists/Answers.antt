use Rattle.std.proofs.Common.{◌≡◌, ap, sym, subst, length, ℕ, Vec, Global, None, Some, Option, arith}
use Rattle.std.specs.Prelude.{IfSome}
use Rattle.frame_owners.specs.FrameOwners.{Listed, lists_in}
use Rattle.frame_owners.proofs.ListLaws.{listed_all, listed_next}
use Rattle.ledger_state.specs.Contents.{HeapContents}
use Rattle.frame_owners.proofs.owners.owner_lists.Goals as goal

pub each-preserved : goal.each-preserved
each-preserved c =
    listed_next (lists_in c.each.lists.items) (lists_in c.add_object.new.lists.items) c.args.heap.now c.each.place c.each.invariant c.add_object.ensures.all
    (λ x found. c.in_ok-add_object.ensures.listed c.if-not-branch.false x found)

pub returns : goal.returns
returns c = go c.listed.result c.listed.ensures
  where
    all : Listed (lists_in c.each.lists.items) c.args.heap.now
    all =
        let count = ap (λ (h : HeapContents). length h.objects) c.heap.view_is in
        listed_all (lists_in c.each.lists.items) c.args.heap.now c.each.place (omega (arith, count)) c.each.invariant

    go : (o : Option (Vec (Vec ℕ Global) Global)) → IfSome o (λ v. v ≡ c.each.lists) → IfSome o (λ v. Listed (lists_in v.items) c.args.heap.now)
    go None h = h
    go (Some v) h = subst (λ (w : Vec (Vec ℕ Global) Global). Listed (lists_in w.items) c.args.heap.now) (sym h) all
