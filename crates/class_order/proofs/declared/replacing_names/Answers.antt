-- One class more is looked through.
use Rattle.std.proofs.Common.{◌∙◌, sym, ap, ◌||◌}
use Rattle.class_order.specs.Declarations.{declaration_of, is_replacing}
use Rattle.class_order.proofs.DeclarationLemmas.{replaced_more}
use Rattle.class_order.proofs.declared.replacing_names.Goals as goal

pub loop-stub-preserved : goal.loop-stub-preserved
loop-stub-preserved c = λ q.
    c.in_ok-put_replacing.ensures q ∙ ap (λ b. b || is_replacing q (declaration_of c.stub-item.result)) (c.loop-stub.invariant q)
    ∙ sym (replaced_more c.args.stubs.now c.loop-stub.stub-index c.stub-item.result q c.loop-stub-test.true c.stub-item.is)
