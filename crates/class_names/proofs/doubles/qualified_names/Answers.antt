-- One class more has a name, that of an earlier class or not.
use Rattle.std.proofs.Common.{◌≡◌, ◌∙◌, ap, sym, not, cond, ◌++◌, ◌∷◌, []}
use Rattle.class_names.specs.ClassNames.{qualified_name}
use Rattle.class_names.proofs.NameLemmas.{key_put}
use Rattle.class_names.proofs.doubles.qualified_names.Goals as goal
use Rattle.class_names.proofs.doubles.qualified_names.Goals.{then-not-branch+in_ok-push, else-not-branch}

pub loop-i-preserved : goal.loop-i-preserved
loop-i-preserved c =
    let found = c.loop-i.found.items in
    let new = c.in_ok-insert.field-0 in
    let grows : c.if-not-branch.found.items ≡ cond (not new) (found ++ c.loop-i.i ∷ []) found =
    elim c.if-not-branch.branch [
      | then-not-branch+in_ok-push w ↦ ap (λ v. v.items) w.found-is ∙ w.in_ok-push.ensures.items ∙ ap (λ b. cond (not b) (found ++ c.loop-i.i ∷ []) found) (sym w.if-not-branch.true)
      | else-not-branch w ↦ ap (λ v. v.items) w.found-is ∙ ap (λ b. cond (not b) (found ++ c.loop-i.i ∷ []) found) (sym w.if-not-branch.false)
    ] in
    let name = c.in_ok-name.ensures ∙ (λ i. qualified_name (c.bytes.ensures i) (c.bytes-in-loop-i.ensures i)) in
    key_put c.args.classes.now c.loop-i.i c.loop-i.names.keys c.insert.new.self.keys found c.if-not-branch.found.items c.in_ok-name.name c.index-classes-i.result new
    c.in_ok-insert.ensures.added c.in_ok-insert.ensures.keys name c.loop-i-test.true c.index-classes-i.is grows c.loop-i.invariant
