-- One class more.
use Rattle.std.proofs.Common.{◌∙◌, sym, ap, ◌++◌}
use Rattle.class_names.specs.ClassNames.{class_number}
use Rattle.class_order.specs.Declarations.{declaration_of}
use Rattle.class_declarations.specs.Members.{fields_of}
use Rattle.class_declarations.proofs.MemberLemmas.{fields_more}
use Rattle.class_declarations.proofs.fields.all_fields.Goals as goal

pub loop-i-preserved : goal.loop-i-preserved
loop-i-preserved c =
    let i = c.loop-i.i in
    let d = c.index-order-i.result in
    c.in_ok-push_fields.ensures ∙ ap (λ xs. xs ++ fields_of (class_number i) (declaration_of d)) c.loop-i.invariant
    ∙ sym (fields_more c.args.order.now i d c.loop-i-test.true c.index-order-i.is)
