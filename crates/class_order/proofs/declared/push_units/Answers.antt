-- One unit more.
use Rattle.std.proofs.Common.{◌∙◌, sym, ap, ◌++◌, map}
use Rattle.std.proofs.lemmas.List.{append_assoc}
use Rattle.class_order.specs.Declarations.{declaration_of, declared_in}
use Rattle.class_order.proofs.DeclarationLemmas.{declared_more}
use Rattle.class_order.proofs.declared.push_units.Goals as goal

pub loop-i-preserved : goal.loop-i-preserved
loop-i-preserved c =
    let old = map declaration_of c.args.all.now.items in
    let before = c.loop-i.invariant in
    let more = declared_more c.args.first c.in-Some.number c.args.library c.args.units.now c.loop-i.i c.index-units-i.result c.loop-i-test.true c.index-units-i.is c.in-Some.ensures.1 in
    c.in_ok-push_unit.ensures ∙ ap (λ xs. xs ++ declared_in c.in-Some.number c.args.library c.index-units-i.result) before
    ∙ append_assoc old _ _ ∙ ap (λ xs. old ++ xs) (sym more)
