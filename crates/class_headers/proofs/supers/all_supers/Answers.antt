-- One class more.
use Rattle.std.proofs.Common.{◌∙◌, sym, ap, map, ◌++◌, ◌∷◌, []}
use Rattle.class_headers.specs.SuperTypes.{supers_of}
use Rattle.class_headers.proofs.SuperLemmas.{supers_more}
use Rattle.std.proofs.lemmas.List.{map_push}
use Rattle.class_headers.proofs.supers.all_supers.Goals as goal

pub loop-i-preserved : goal.loop-i-preserved
loop-i-preserved c =
    ap (map supers_of) c.in_ok-push.ensures.items ∙ map_push supers_of c.loop-i.all.items c.in_ok-declared_supers.field-0
    ∙ (λ j. c.loop-i.invariant j ++ c.in_ok-declared_supers.ensures j ∷ [])
    ∙ sym (supers_more c.args.names.now c.args.object c.args.order.now c.loop-i.i c.index-order-i.result c.loop-i-test.true c.index-order-i.is)
