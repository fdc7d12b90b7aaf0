-- One class more has its number.
use Rattle.std.proofs.Common.{◌∙◌, sym, ap, ◌+◌, [], ◌∷◌, ◌++◌, map}
use Rattle.std.proofs.lemmas.List.{map_push}
use Rattle.class_order.specs.Declarations.{declaration_of}
use Rattle.source_classes.specs.SourceClasses.{source_class_of}
use Rattle.source_classes.proofs.ClassLemmas.{numbered, numbered_more, source_class}
use Rattle.source_classes.proofs.classes.numbered_from.Goals as goal

pub loop-i-preserved : goal.loop-i-preserved
loop-i-preserved c =
    let i = c.loop-i.i in
    let d = c.index-order-i.result in
    let old = map source_class_of c.loop-i.all.items in
    ap (map source_class_of) c.in_ok-push.ensures.items ∙ map_push source_class_of c.loop-i.all.items _
    ∙ ap (λ k. old ++ source_class k (declaration_of d) ∷ []) c.in_ok-class.ensures
    ∙ ap (λ cs. cs ++ numbered (c.args.first + i) (declaration_of d) ∷ []) c.loop-i.invariant
    ∙ sym (numbered_more c.args.first c.args.order.now i d c.loop-i-test.true c.index-order-i.is)
