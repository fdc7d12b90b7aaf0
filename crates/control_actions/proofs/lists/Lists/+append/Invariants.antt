use Rattle.control_actions.proofs.lists.Lists.+append.Given as goal

abbrev pub decreases-append : goal.decreases-append
decreases-append l = l.front
