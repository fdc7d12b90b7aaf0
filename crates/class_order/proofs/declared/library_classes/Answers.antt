-- One class more counts, or does not.
use Rattle.std.proofs.Common.{◌∙◌, sym, ap, map, cond, ◌++◌, ◌∷◌, [], take}
use Rattle.std.specs.Prelude.{filter}
use Rattle.rlc_base.specs.Names.{texts}
use Rattle.class_names.specs.ClassNames.{is_among}
use Rattle.class_order.specs.Declarations.{declaration_of, is_kept, name_of, stays}
use Rattle.class_order.proofs.DeclarationLemmas.{kept_more}
use Rattle.class_order.proofs.declared.library_classes.Goals as goal

pub loop-stub-preserved : goal.loop-stub-preserved
loop-stub-preserved c =
    let d = declaration_of c.stub-item.result in
    let all = kept_more (is_kept c.args.core (map declaration_of c.args.stubs.now)) c.args.stubs.now c.loop-stub.stub-index c.stub-item.result c.loop-stub-test.true c.stub-item.is in
    let held = c.holds.ensures ∙ ap (is_among (texts c.in_ok-replacing.replacing.keys)) (c.deref.ensures.value ∙ c.in_ok-name.ensures) ∙ c.in_ok-replacing.ensures (name_of d) in
    let test = c.stays-stub_stays.ensures ∙ ap (stays c.args.core d) held in
    c.in_ok-keep.ensures ∙ ap (λ xs. xs ++ cond c.stays-stub_stays.result (d ∷ []) []) c.loop-stub.invariant ∙ ap (λ b. filter (is_kept c.args.core (map declaration_of c.args.stubs.now)) (map declaration_of (take c.loop-stub.stub-index c.args.stubs.now)) ++ cond b (d ∷ []) []) test ∙ sym all
