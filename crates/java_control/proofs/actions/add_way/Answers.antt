-- One step more, over a table that grew.
use Rattle.std.proofs.Common.{◌∙◌, ◌++◌, ◌∷◌, [], ap, arith, length, map}
use Rattle.java_control.specs.Changes.{step_in}
use Rattle.java_control.proofs.StepLemmas.{steps_grown, steps_small}
use Rattle.java_control.proofs.actions.add_way.Goals as goal

pub returns-clause-steps : goal.returns-clause-steps
returns-clause-steps c =
    let old = c.args.lists.now.cells.keys in
    let new = c.push_all.new.self.cells.keys in
    let to = c.in_ok-to.ensures.list in
    ap (map (step_in new)) c.in_ok-push.ensures.items
    ∙ steps_grown old new c.args.steps.now.items _ c.in_ok-to.ensures.kept c.requires.steps
    ∙ (λ i. map (step_in old) c.args.steps.now.items ++ record { action = c.args.action; edge = c.args.edge; to = to i; pos = c.args.pos } ∷ [])

pub returns-clause-within : goal.returns-clause-within
returns-clause-within c =
    rw c.in_ok-push.ensures.items (steps_small c.args.steps.now.items _ (length c.push_all.new.self.cells.keys) (omega (arith, c.requires.steps, c.in_ok-to.ensures.kept.grows)) c.in_ok-to.ensures.within)
