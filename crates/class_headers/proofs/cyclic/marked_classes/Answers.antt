-- One class more has a mark, or not.
use Rattle.std.proofs.Common.{◌∙◌, sym, ap, cond, ◌++◌, ◌∷◌, [], get_or, false}
use Rattle.class_names.specs.ClassNames.{class_number}
use Rattle.class_headers.proofs.CycleLemmas.{marked_push}
use Rattle.class_headers.proofs.cyclic.marked_classes.Goals as goal

pub loop-number-preserved : goal.loop-number-preserved
loop-number-preserved c =
    let marks = c.args.marks.now in
    let n = c.loop-number.number in
    c.in_ok-push_marked.ensures ∙ ap (λ xs. xs ++ cond (get_or marks n false) (class_number n ∷ []) []) c.loop-number.invariant
    ∙ sym (marked_push (λ k. get_or marks k false) n)
