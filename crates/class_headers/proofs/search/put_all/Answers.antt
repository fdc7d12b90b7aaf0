-- One class of the list more.
use Rattle.std.proofs.Common.{◌∙◌, get_or}
use Rattle.std.proofs.lemmas.List.{get_or_default}
use Rattle.program_model.specs.declared.kinds.ClassId.{ClassId}
use Rattle.class_headers.proofs.SearchLemmas.{grows_next}
use Rattle.class_headers.proofs.search.put_all.Goals as goal

pub loop-class-preserved : goal.loop-class-preserved
loop-class-preserved c =
    let none : ClassId = record { 0 = 0 } in
    let classes = c.args.classes.now in
    let i = c.loop-class.class-index in
    let next = get_or classes i none in
    record {
      grows = grows_next c.args.found.now.items c.loop-class.found.items c.put.new.found.items classes i next c.loop-class-test.true (get_or_default classes i none next c.loop-class-test.true) c.loop-class.invariant.grows c.in_ok-put.ensures.grows;
      marked = c.in_ok-put.ensures.marked;
      count = c.in_ok-put.ensures.count ∙ c.loop-class.invariant.count;
      long = c.in_ok-put.ensures.length ∙ c.loop-class.invariant.long;
    }
