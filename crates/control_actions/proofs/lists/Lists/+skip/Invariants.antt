use Rattle.control_actions.proofs.lists.Lists.+skip.Given as goal

abbrev pub decreases-skip : goal.decreases-skip
decreases-skip l = l.count
