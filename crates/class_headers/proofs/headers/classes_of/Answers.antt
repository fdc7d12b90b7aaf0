-- One class more.
use Rattle.std.proofs.Common.{◌∙◌, sym, ap, subst, map, length, arith, List, ◌++◌, ◌∷◌, [], ◌<◌}
use Rattle.std.proofs.lemmas.List.{length_push, map_push}
use Rattle.program_model.specs.declared.kinds.ClassId.{ClassId}
use Rattle.program_model.specs.declared.program.Class.{Class}
use Rattle.class_names.specs.ClassNames.{class_number, rows_in}
use Rattle.class_headers.specs.Headers.{AllList, ListsAbove, header_of}
use Rattle.class_headers.specs.SuperTypes.{AreKnown}
use Rattle.class_headers.proofs.AboveLemmas.{headers_more, lists_more}
use Rattle.class_headers.proofs.headers.classes_of.Goals as goal

pub lists_above-requires-clause-known : goal.lists_above-requires-clause-known
lists_above-requires-clause-known c =
    let P : List (List ClassId) → Type 0 = AreKnown in
    subst P (sym (ap rows_in c.deref.ensures.value)) c.requires.known

pub loop-number-preserved : goal.loop-number-preserved
loop-number-preserved c =
    let order = c.args.order.now in
    let supers = c.args.table.now.supers.items in
    let n = c.loop-number.number in
    let old = c.loop-number.all.items in
    let class' = c.in_ok-class.class in
    let direct = rows_in c.args.table.now.direct.items in
    let wide = c.requires.wide in
    let test = c.loop-number-test.true in
    let inside : n < length supers = omega arith in
    let long = ap length c.in_ok-push.ensures.items ∙ length_push old class' in
    let count = c.loop-number.invariant.count in
    let all = headers_more order supers n c.index-order-number.result c.index.result.now test inside c.index-order-number.is c.index.ensures in
    let A : List (List ClassId) → Type 0 = λ rows. ListsAbove rows (class_number n) c.in_ok-above.above.items in
    let own = subst A (ap rows_in c.deref.ensures.value) c.in_ok-above.ensures in
    let B : List ClassId → Type 0 = ListsAbove direct (class_number n) in
    let lists = subst B (sym c.in_ok-class.ensures.above) own in
    let D : List Class → Type 0 = AllList direct in
    record {
      count = omega (arith, long, count);
      headers = ap (map header_of) c.in_ok-push.ensures.items ∙ map_push header_of old class' ∙ (λ j. c.loop-number.invariant.headers j ++ c.in_ok-class.ensures.header j ∷ []) ∙ sym all;
      above = subst D (sym c.in_ok-push.ensures.items) (lists_more direct old class' n (sym count) c.loop-number.invariant.above lists);
    }
