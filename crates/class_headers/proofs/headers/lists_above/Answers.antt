-- The classes with a mark are those above.
use Rattle.std.proofs.Common.{◌∙◌, sym, ap, subst, List}
use Rattle.program_model.specs.declared.kinds.ClassId.{ClassId}
use Rattle.class_names.specs.ClassNames.{rows_in}
use Rattle.class_headers.specs.Cycles.{marked_classes}
use Rattle.class_headers.specs.Headers.{ListsAbove}
use Rattle.class_headers.proofs.AboveLemmas.{lists_marked}
use Rattle.class_headers.proofs.headers.lists_above.Goals as goal

pub returns : goal.returns
returns c =
    let direct = rows_in c.args.direct.now in
    let P : List ClassId → Type 0 = ListsAbove direct c.args.class in
    subst P (sym (c.in_ok-classes.ensures ∙ ap marked_classes c.deref.ensures.value)) (lists_marked direct c.args.class c.in_ok-marks.marks.items c.in_ok-marks.ensures.above)
