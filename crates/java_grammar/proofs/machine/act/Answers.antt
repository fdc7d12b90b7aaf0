use Rattle.std.proofs.Common.{refl, sym, ◌++◌, ◌∷◌, [], append-nil}
use Rattle.java_grammar.proofs.ActionSteps.{came_more, events_more}
use Rattle.java_grammar.proofs.machine.act.Goals as goal

pub loop-action-init : goal.loop-action-init
loop-action-init c = ([], refl, sym (append-nil _), refl)

pub loop-action-preserved : goal.loop-action-preserved
loop-action-preserved c =
    let i = c.loop-action.invariant in
    (i.0 ++ c.in-Some.action ∷ [], came_more _ i.0 c.in-Some.action _ _ i.1 c.in-Some.ensures, events_more _ _ _ i.0 c.in-Some.action i.2 c.in_ok-append.ensures, i.3)
