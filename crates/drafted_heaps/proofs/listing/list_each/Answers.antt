use Rattle.std.proofs.Common.{◌∙◌, ap, sym, subst, List, [], ◌∷◌, ◌++◌, take}
use Rattle.std.proofs.lemmas.List.{take_all, take_more}
use Rattle.frame_owners.specs.FrameOwners.{lists_in}
use Rattle.frame_owners.proofs.OwnerLaws.{all_listed}
use Rattle.spread_notes.specs.declared.numbered.Numbered.{Numbered}
use Rattle.drafted_heaps.specs.DraftedHeaps.{AllListed}
use Rattle.drafted_heaps.proofs.ListLaws.{listed_again, listed_also}
use Rattle.drafted_heaps.proofs.listing.list_each.Goals as goal

pub each-init : goal.each-init
each-init c = record { all = λ j k h. h; kept = c.requires; listed = tt }

pub each-preserved : goal.each-preserved
each-preserved c =
    let inv = c.each.invariant in
    let more = lists_in c.list_one.new.lists.items in
    let objects = c.args.objects.now in
    let so_far = take_more objects c.each.found-index c.found-item.result c.each-test.true ∙ ap (λ z. take c.each.found-index objects ++ z ∷ []) (sym c.found-item.is) in
    record {
      all = λ j k h. c.list_one.ensures.all j k (inv.all j k h);
      kept = all_listed (lists_in c.each.lists.items) more c.args.heap.now c.list_one.ensures.all inv.kept;
      listed = subst (λ (bs : List Numbered). AllListed more bs) (sym so_far)
          (listed_also more (take c.each.found-index objects) c.found-item.result (listed_again (lists_in c.each.lists.items) more (take c.each.found-index objects) c.list_one.ensures.all inv.listed) (c.in_ok-list_one.ensures.listed c.if-not-branch.false));
    }

pub returns-in_err-list_one-clause-all : goal.returns-in_err-list_one-clause-all
returns-in_err-list_one-clause-all c = λ j k h. c.list_one.ensures.all j k (c.each.invariant.all j k h)

pub returns-then-not-branch-clause-all : goal.returns-then-not-branch-clause-all
returns-then-not-branch-clause-all c = λ j k h. c.list_one.ensures.all j k (c.each.invariant.all j k h)

pub returns-clause-listed : goal.returns-clause-listed
returns-clause-listed c = λ is. subst (λ (bs : List Numbered). AllListed (lists_in c.each.lists.items) bs) (take_all c.each.found-index c.args.objects.now c.each-test.false) c.each.invariant.listed
