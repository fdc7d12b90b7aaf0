-- One class more.
use Rattle.std.proofs.Common.{◌∙◌, sym, ap, ◌++◌, map}
use Rattle.class_names.specs.ClassNames.{class_number}
use Rattle.class_order.specs.Declarations.{declaration_of}
use Rattle.class_declarations.specs.Members.{methods_written, methods_of, written_method_of, written_of}
use Rattle.class_declarations.proofs.MemberLemmas.{methods_more}
use Rattle.class_declarations.proofs.methods.all_methods.Goals as goal

pub loop-i-preserved : goal.loop-i-preserved
loop-i-preserved c =
    let i = c.loop-i.i in
    let d = c.index-order-i.result in
    let names = c.args.names.now in
    let trees = ap (map written_of) c.deref.ensures.value ∙ c.in_ok-trees.ensures in
    c.in_ok-push_methods.ensures
    ∙ ap (λ ws. map written_method_of c.loop-i.all.items ++ methods_written (class_number i) (declaration_of d) ws) trees
    ∙ ap (λ xs. xs ++ methods_of names (class_number i) (declaration_of d)) c.loop-i.invariant
    ∙ sym (methods_more names c.args.order.now i d c.loop-i-test.true c.index-order-i.is)
