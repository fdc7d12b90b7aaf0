use Rattle.std.proofs.Common.{◌∙◌, ap, sym, subst, List, [], ◌∷◌, ◌++◌, take}
use Rattle.std.proofs.lemmas.List.{take_all, take_more}
use Rattle.ledger_state.specs.Contents.{HeapContents}
use Rattle.object_index.specs.ObjectIndexes.{Indexed}
use Rattle.object_index.proofs.IndexLaws.{all_indexed, has_same, has_then}
use Rattle.spread_notes.specs.declared.numbered.Numbered.{Numbered}
use Rattle.spread_notes.specs.SpreadNotes.{put_each}
use Rattle.drafted_heaps.proofs.IndexLaws.{each_more}
use Rattle.drafted_heaps.proofs.indexing.index_each.Goals as goal

pub each-init : goal.each-init
each-init c = record { all = has_same c.args.index.now; put = λ g indexed. indexed }

pub index_one-requires : goal.index_one-requires
index_one-requires c = all_indexed c.args.index.now c.each.index c.args.heap.now c.each.invariant.all c.requires

pub each-preserved : goal.each-preserved
each-preserved c =
    let inv = c.each.invariant in
    let changed = c.args.changed.now in
    let before = take c.each.found-index changed in
    let so_far = take_more changed c.each.found-index c.found-item.result c.each-test.true ∙ ap (λ z. before ++ z ∷ []) (sym c.found-item.is) in
    record {
      all = has_then c.args.index.now c.each.index c.index_one.new.index inv.all c.index_one.ensures.all;
      put = λ g indexed. subst (λ (h : HeapContents). Indexed c.index_one.new.index h) (sym (ap (λ (bs : List Numbered). put_each bs g) so_far ∙ each_more before c.found-item.result g))
          (c.in_ok-index_one.ensures.put c.if-not-branch.false (put_each before g) (inv.put g indexed));
    }

pub returns-in_err-index_one-clause-all : goal.returns-in_err-index_one-clause-all
returns-in_err-index_one-clause-all c = has_then c.args.index.now c.each.index c.index_one.new.index c.each.invariant.all c.index_one.ensures.all

pub returns-then-not-branch-clause-all : goal.returns-then-not-branch-clause-all
returns-then-not-branch-clause-all c = has_then c.args.index.now c.each.index c.index_one.new.index c.each.invariant.all c.index_one.ensures.all

pub returns-clause-put : goal.returns-clause-put
returns-clause-put c = λ is g indexed. subst (λ (bs : List Numbered). Indexed c.each.index (put_each bs g)) (take_all c.each.found-index c.args.changed.now c.each-test.false) (c.each.invariant.put g indexed)
