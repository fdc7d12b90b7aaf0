-- One mark more is taken away.
use Rattle.std.proofs.Common.{◌∙◌, refl, get_or}
use Rattle.std.proofs.lemmas.List.{get_or_default}
use Rattle.program_model.specs.declared.kinds.ClassId.{ClassId}
use Rattle.class_headers.proofs.SearchLemmas.{cleared_all, cleared_next, cleared_start}
use Rattle.class_headers.proofs.search.clear.Goals as goal

pub loop-class-init : goal.loop-class-init
loop-class-init c = record {
  cleared = cleared_start c.args.found.now c.args.marks.now.items c.requires;
  long = refl;
}

pub loop-class-preserved : goal.loop-class-preserved
loop-class-preserved c =
    let none : ClassId = record { 0 = 0 } in
    let found = c.args.found.now in
    let i = c.loop-class.class-index in
    let next = get_or found i none in
    record {
      cleared = cleared_next found i next c.loop-class.marks.items c.unmark.new.marks.items c.loop-class-test.true (get_or_default found i none next c.loop-class-test.true) c.unmark.ensures.gone c.unmark.ensures.others c.loop-class.invariant.cleared;
      long = c.unmark.ensures.length ∙ c.loop-class.invariant.long;
    }

pub returns-clause-clear : goal.returns-clause-clear
returns-clause-clear c =
    let test = c.loop-class-test.false in
    cleared_all c.args.found.now c.loop-class.class-index c.loop-class.marks.items test c.loop-class.invariant.cleared
