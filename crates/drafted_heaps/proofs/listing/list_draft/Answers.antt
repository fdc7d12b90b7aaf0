use Rattle.std.proofs.Common.{◌≡◌, Bool, true, List, subst, Result, Ok, Err}
use Rattle.std.specs.Prelude.{IfOk}
use Rattle.frame_owners.specs.FrameOwners.{Listed, is_listed, lists_in}
use Rattle.frame_owners.proofs.ListLaws.{listed_more}
use Rattle.frame_owners.proofs.OwnerLaws.{all_listed}
use Rattle.ledger_state.specs.Heaps.{next_number}
use Rattle.spread_notes.specs.declared.numbered.Numbered.{Numbered}
use Rattle.rlc_base.specs.declared.faults.NoMemory.{NoMemory}
use Rattle.drafted_heaps.specs.DraftedHeaps.{AllListed, drafted_by}
use Rattle.spread_notes.specs.SpreadNotes.{add_made, put_each}
use Rattle.drafted_heaps.proofs.ListLaws.{listed_draft}
use Rattle.drafted_heaps.proofs.StoredLaws.{listed_stored}
use Rattle.drafted_heaps.proofs.listing.list_draft.Goals as goal

pub returns-in_err-list_made-clause-kept : goal.returns-in_err-list_made-clause-kept
returns-in_err-list_made-clause-kept c = all_listed (lists_in c.args.lists.now.items) (lists_in c.list_made.new.lists.items) c.args.heap.now c.list_made.ensures.all c.requires

pub returns-then-not-branch-clause-kept : goal.returns-then-not-branch-clause-kept
returns-then-not-branch-clause-kept c = all_listed (lists_in c.args.lists.now.items) (lists_in c.list_made.new.lists.items) c.args.heap.now c.list_made.ensures.all c.requires

pub list_each-requires : goal.list_each-requires
list_each-requires c = all_listed (lists_in c.args.lists.now.items) (lists_in c.list_made.new.lists.items) c.args.heap.now c.list_made.ensures.all c.requires

pub returns-clause-kept : goal.returns-clause-kept
returns-clause-kept c =
    all_listed (lists_in c.list_made.new.lists.items) (lists_in c.list_each.new.lists.items) c.args.heap.now c.list_each.ensures.all
    (all_listed (lists_in c.args.lists.now.items) (lists_in c.list_made.new.lists.items) c.args.heap.now c.list_made.ensures.all c.requires)

pub returns-clause-listed : goal.returns-clause-listed
returns-clause-listed c = go c.list_each.result c.list_each.ensures.listed
  where
    go : (r : Result Bool NoMemory) → IfOk r (λ b. b ≡ true → AllListed (lists_in c.list_each.new.lists.items) c.deref.result.now)
        → IfOk r (λ b. b ≡ true → Listed (lists_in c.list_each.new.lists.items) (drafted_by c.args.change.now c.args.heap.now))
    go (Err e) h = h
    go (Ok b) h = λ is.
        let last = lists_in c.list_each.new.lists.items in
        listed_stored last c.args.change.now.stored (put_each c.args.change.now.changed.items (add_made c.args.change.now.made c.args.heap.now))
        (listed_draft last c.args.heap.now c.args.change.now.changed.items c.args.change.now.made
        (subst (λ (bs : List Numbered). AllListed last bs) c.deref.ensures.value (h is))
        (λ x e. listed_more (lists_in c.list_made.new.lists.items) last x.owner (next_number c.args.heap.now) c.list_each.ensures.all
        (subst (λ k. is_listed (lists_in c.list_made.new.lists.items) x.owner k ≡ true) c.next_number.ensures (c.in_ok-list_made.ensures.listed c.if-not-branch.false x e)))
        (all_listed (lists_in c.list_made.new.lists.items) last c.args.heap.now c.list_each.ensures.all
        (all_listed (lists_in c.args.lists.now.items) (lists_in c.list_made.new.lists.items) c.args.heap.now c.list_made.ensures.all c.requires)))
