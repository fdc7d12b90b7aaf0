-- One method or constructor more, or a constant.
use Rattle.std.proofs.Common.{◌∙◌, sym, ap, ◌++◌, ◌∷◌, [], map, take}
use Rattle.std.proofs.lemmas.List.{map-append}
use Rattle.class_names.specs.Meanings.{unit_of}
use Rattle.class_declarations.specs.Members.{written_of}
use Rattle.class_checks.specs.DoubleMembers.{invocable, is_invocable}
use Rattle.class_checks.specs.MemberKeys.{keyed_method}
use Rattle.class_checks.proofs.DoubleLemmas.{invocable_more}
use Rattle.class_checks.proofs.members.method_keys.Goals as goal

pub loop-tree-preserved : goal.loop-tree-preserved
loop-tree-preserved c =
    let keyed = keyed_method c.args.names.now (unit_of c.args.scope.now) in
    let trees = c.args.trees.now in
    let i = c.loop-tree.tree-index in
    let tree = c.tree-item.result in
    let last = invocable (written_of tree ∷ []) in
    c.in_ok-push_method.ensures ∙ ap (λ xs. xs ++ map keyed last) c.loop-tree.invariant
    ∙ sym (map-append keyed (invocable (map written_of (take i trees))) last)
    ∙ ap (map keyed) (sym (invocable_more is_invocable written_of trees i tree c.loop-tree-test.true c.tree-item.is))
